use Rattle.std.proofs.Common.{◌≡◌, drop}
use Rattle.std.specs.Map.{values_of}
use Rattle.osb_recipe.specs.Interning.{interned_all}
use Rattle.osb_plan.specs.Planning.{same_chain}
use Rattle.osb_plan.proofs.tasks.add_chains.Given as goal

abbrev pub invariant-loop-chain : goal.invariant-loop-chain
invariant-loop-chain l = interned_all same_chain l.tasks.items (values_of (drop l.chain-index l.chains)) ≡ interned_all same_chain l.fn.tasks.items (values_of l.chains)
