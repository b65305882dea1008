use Rattle.std.proofs.Common.{◌≡◌, ◌<◌, ◌+◌, List, length, sym, ap, ap₂, subst, ◌∙◌}
use Rattle.std.specs.List.{All}
use Rattle.osb_tree.specs.declared.numbers.Key.{Key}
use Rattle.osb_recipe.specs.Works.{tree_of}
use Rattle.osb_recipe.specs.Tables.{last_of}
use Rattle.osb_recipe.specs.Meanings.{Found, meant}
use Rattle.osb_tasks.specs.Running.{outcome_found, with_tree, HasTrees}
use Rattle.osb_tasks.proofs.Turns.{task_at, task_meant, chain_below, last_below, outcomes_on, length-with_tree, trees_kept}
use Rattle.osb_tasks.proofs.runs.run_tasks.Goals as goal

pub task_outcome-requires-clause-keys : goal.task_outcome-requires-clause-keys
task_outcome-requires-clause-keys g c =
    let at = task_at c.as_slice-tasks.result.now c.args.plan.now.tasks c.loop-task.task-index c.task-item.result c.as_slice-tasks.ensures.items c.loop-task-test.true c.task-item.is in
    let is = c.requires.sound.tasks c.loop-task.task-index c.task-item.result at in
    subst (λ (chain : List Key). All (λ key. key.0 < length c.args.plan.now.table.recipes) chain) (sym c.as_slice-chain.ensures.items) (chain_below c.args.plan.now.table c.task-item.result.chain is.chain)

pub keep_tree-requires : goal.keep_tree-requires
keep_tree-requires g c =
    let at = task_at c.as_slice-tasks.result.now c.args.plan.now.tasks c.loop-task.task-index c.task-item.result c.as_slice-tasks.ensures.items c.loop-task-test.true c.task-item.is in
    let is = c.requires.sound.tasks c.loop-task.task-index c.task-item.result at in
    last_below c.args.plan.now.table c.loop-task.found.items c.task-item.result.chain c.as_slice-chain.result.now c.last_of.result is.chain c.loop-task.invariant.keys c.as_slice-chain.ensures.items c.last_of.ensures

pub loop-task-preserved : goal.loop-task-preserved
loop-task-preserved g c =
    let table = c.args.plan.now.table in
    let tasks = c.args.plan.now.tasks in
    let number = c.loop-task.task-index in
    let task = c.task-item.result in
    let found = c.loop-task.found.items in
    let outcome = c.in_ok-outcome.outcome in
    let at = task_at c.as_slice-tasks.result.now tasks number task c.as_slice-tasks.ensures.items c.loop-task-test.true c.task-item.is in
    let is = c.requires.sound.tasks number task at in
    let means : outcome ≡ meant table task.chain =
    c.in_ok-outcome.ensures ∙ ap₂ (λ (trees : Found) (chain : List Key). outcome_found trees table.blobs table.recipes chain) c.deref.ensures.value c.as_slice-chain.ensures.items ∙ task_meant table tasks number task found is c.loop-task.invariant.trees in
    let keeps : c.keep_tree.new.found.items ≡ with_tree (last_of task.chain) (tree_of outcome) found =
    c.in_ok-keep_tree.ensures ∙ ap (λ last. with_tree last (tree_of outcome) found) (c.last_of.ensures ∙ ap last_of c.as_slice-chain.ensures.items) in
    record {
      outcomes = outcomes_on table tasks number task outcome c.loop-task.outcomes.items c.push.new.self.items at means c.in_ok-push.ensures.items c.loop-task.invariant.outcomes;
      keys = ap length keeps ∙ length-with_tree (last_of task.chain) (tree_of outcome) found ∙ c.loop-task.invariant.keys;
      trees = subst (λ (trees : Found). HasTrees table tasks (number + 1) trees) (sym keeps) (trees_kept table tasks number task found outcome c.recipes.ensures.table is.chain c.loop-task.invariant.keys at means c.loop-task.invariant.trees);
    }
