use Rattle.std.proofs.Common.{◌≡◌, take, map}
use Rattle.osb_plan.specs.Planning.{task_numbers}
use Rattle.osb_plan.proofs.tasks.builds_numbers.Given as goal

abbrev pub invariant-loop-chains : goal.invariant-loop-chains
invariant-loop-chains l = l.numbers.items ≡ map (task_numbers l.tasks) (take l.chains-index l.builds)
