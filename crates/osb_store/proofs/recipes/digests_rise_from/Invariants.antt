use Rattle.std.proofs.Common.{◌≡◌, drop}
use Rattle.osb_store.specs.Recipes.{rises_from, digests_at}
use Rattle.osb_store.proofs.recipes.digests_rise_from.Given as goal

abbrev pub invariant-loop-number : goal.invariant-loop-number
invariant-loop-number l = rises_from l.last (digests_at l.blobs (drop l.number-index l.numbers)) ≡ rises_from l.fn.first (digests_at l.blobs l.numbers)
