use Rattle.std.proofs.Common.{◌≡◌, drop}
use Rattle.osb_plan.specs.Planning.{ref_at}
use Rattle.osb_plan.proofs.stages.ref_at.Given as goal

abbrev pub invariant-loop-held : goal.invariant-loop-held
invariant-loop-held l = ref_at (drop l.held-index l.chains) l.place ≡ ref_at l.chains l.place
