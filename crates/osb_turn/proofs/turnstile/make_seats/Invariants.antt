use Rattle.std.proofs.Common.{◌≡◌, ◌+◌, [], length}
use Rattle.osb_turn.specs.Rows.{first_view, AreNewFrom}
use Rattle.osb_turn.proofs.turnstile.make_seats.Given as goal

abbrev pub invariant-loop-number : goal.invariant-loop-number
invariant-loop-number g l = record {
  same : l.first.table_id ≡ l.line.table_id;
  made : l.first.me ≡ (first_view l.line.key l.number, []);
  count : length l.seats.items + 1 ≡ l.number;
  seats : AreNewFrom l.line.table_id l.line.key 1 l.seats.items;
}
