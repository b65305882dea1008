use Rattle.std.proofs.Common.{◌<◌, All}
use Rattle.osb_cases.proofs.boards.lower_tasks.Given as goal

abbrev pub invariant-loop-word : goal.invariant-loop-word
invariant-loop-word l = All (λ dep. dep.0 < l.task) l.deps.items
