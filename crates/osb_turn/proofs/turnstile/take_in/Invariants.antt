use Rattle.std.proofs.Common.{◌≡◌, List, ◌++◌, All, length}
use Rattle.osb_turn.specs.Seats.{SeatState}
use Rattle.osb_turn.specs.Rows.{HasTakenIn}
use Rattle.osb_turn.proofs.turnstile.take_in.Given as goal

abbrev pub invariant-loop-other : goal.invariant-loop-other
invariant-loop-other g l = (gone : List (SeatState g.row.S.Denot g.row.S-Action.Denot g.row.S-Reply.Denot)) × (l.fn.others.items ≡ l.others.items ++ gone) × HasTakenIn l.fn.first gone l.kept × All (λ seat. seat.table ≡ l.line.table_id) l.others.items

abbrev pub decreases-loop-other : goal.decreases-loop-other
decreases-loop-other g l = length l.others.items
