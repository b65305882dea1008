use Rattle.std.proofs.Common.{◌≡◌, ◌-◌}
use Rattle.osb_store.specs.Entries.{behind, pairs_at}
use Rattle.osb_store.proofs.entries.pairs_of.Given as goal

abbrev pub invariant-loop : goal.invariant-loop
invariant-loop l = behind l.pairs.items (pairs_at (l.count - l.counter) l.rest) ≡ pairs_at l.count l.bytes
