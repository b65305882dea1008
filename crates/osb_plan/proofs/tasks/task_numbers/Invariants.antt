use Rattle.std.proofs.Common.{◌≡◌, ◌++◌, drop}
use Rattle.osb_plan.specs.Planning.{task_numbers}
use Rattle.osb_plan.proofs.tasks.task_numbers.Given as goal

abbrev pub invariant-loop-chain : goal.invariant-loop-chain
invariant-loop-chain l = l.numbers.items ++ task_numbers l.tasks (drop l.chain-index l.chains) ≡ task_numbers l.tasks l.chains
