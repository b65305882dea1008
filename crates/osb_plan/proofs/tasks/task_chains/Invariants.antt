use Rattle.std.proofs.Common.{◌≡◌, drop}
use Rattle.std.specs.List.{flat_map}
use Rattle.std.specs.Map.{values_of}
use Rattle.osb_recipe.specs.Interning.{interned_all}
use Rattle.osb_plan.specs.Planning.{same_chain, task_chains}
use Rattle.osb_plan.proofs.tasks.task_chains.Given as goal

abbrev pub invariant-loop-chains : goal.invariant-loop-chains
invariant-loop-chains l = interned_all same_chain l.tasks.items (flat_map (λ chains. values_of chains) (drop l.chains-index l.builds)) ≡ task_chains l.builds
