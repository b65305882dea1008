use Rattle.std.proofs.Common.{◌≡◌, map, take}
use Rattle.osb_machine.proofs.openings.deps_of.Given as goal

-- the lists of the tasks so far
abbrev pub invariant-loop-task : goal.invariant-loop-task
invariant-loop-task l = l.deps.items ≡ map (λ task. task.deps) (take l.task-index l.tasks)
