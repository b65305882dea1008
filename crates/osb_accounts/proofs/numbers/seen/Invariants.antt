use Rattle.std.proofs.Common.{◌≡◌, ◌+◌, ◌<◌, ℕ, false, length, take, get_or}
use Rattle.osb_accounts.specs.Lines.{is_taken}
use Rattle.osb_accounts.proofs.numbers.seen.Given as goal

abbrev pub invariant-loop-line : goal.invariant-loop-line
invariant-loop-line l = record {
  count : length l.seen.items ≡ l.count;
  taken : (place : ℕ) → place < l.count → get_or l.seen.items place false ≡ is_taken (1000 + place) (take l.line-index l.lines);
}
