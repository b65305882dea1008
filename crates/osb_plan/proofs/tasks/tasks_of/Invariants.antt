use Rattle.std.proofs.Common.{◌≡◌, take, map}
use Rattle.osb_plan.specs.Planning.{task_of}
use Rattle.osb_plan.proofs.tasks.tasks_of.Given as goal

abbrev pub invariant-loop-chain : goal.invariant-loop-chain
invariant-loop-chain l = l.tasks.items ≡ map (task_of l.table l.chains l.marked) (take l.chain-index l.chains)
