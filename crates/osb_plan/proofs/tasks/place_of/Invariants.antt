use Rattle.std.proofs.Common.{◌≡◌, ◌+◌, drop}
use Rattle.osb_recipe.specs.Interning.{place_in}
use Rattle.osb_plan.specs.Planning.{same_chain}
use Rattle.osb_plan.proofs.tasks.place_of.Given as goal

abbrev pub invariant-loop-place : goal.invariant-loop-place
invariant-loop-place l = l.place + place_in same_chain (drop l.place l.tasks) l.chain ≡ place_in same_chain l.tasks l.chain
