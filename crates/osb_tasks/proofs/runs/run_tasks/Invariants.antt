use Rattle.std.proofs.Common.{◌≡◌, length, take, map}
use Rattle.osb_recipe.specs.Meanings.{meant}
use Rattle.osb_tasks.specs.Running.{HasTrees}
use Rattle.osb_tasks.proofs.runs.run_tasks.Given as goal

abbrev pub invariant-loop-task : goal.invariant-loop-task
invariant-loop-task g l = record {
  outcomes : l.outcomes.items ≡ map (λ task. meant l.plan.table task.chain) (take l.task-index l.plan.tasks);
  keys : length l.found.items ≡ length l.plan.table.recipes;
  trees : HasTrees l.plan.table l.plan.tasks l.task-index l.found.items;
}
