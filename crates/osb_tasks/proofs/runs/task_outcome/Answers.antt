use Rattle.std.proofs.Common.{ℕ, List, sym, ap, ◌∙◌}
use Rattle.std.specs.Prelude.{option_map}
use Rattle.osb_recipe.specs.Recipes.{Origin}
use Rattle.osb_recipe.specs.Works.{Work, does}
use Rattle.osb_recipe.specs.Meanings.{work_of}
use Rattle.osb_tasks.specs.Ready.{keys_can_run}
use Rattle.osb_tasks.proofs.ChainStages.{key_at, blocked, stage_at, below_shown, stages_go_on, stages_stop, on_ok}
use Rattle.osb_tasks.proofs.runs.task_outcome.Goals as goal

pub returns-then-not-keys_can_run : goal.returns-then-not-keys_can_run
returns-then-not-keys_can_run g c =
    blocked c.args.found.now c.args.table.now.blobs c.args.table.now.recipes c.args.chain.now
    (ap (λ (recipes : List Origin). keys_can_run c.args.found.now recipes c.args.chain.now) (sym c.recipes-recipes.ensures.recipes) ∙ sym c.if-not-keys_can_run.ensures)

pub stage_tree-requires-clause-ready : goal.stage_tree-requires-clause-ready
stage_tree-requires-clause-ready g c =
    let stage = stage_at c.args.found.now c.args.table.now.blobs c.recipes-recipes.result.now c.args.table.now.recipes c.args.chain.now c.loop-place.place c.recipe_at-recipe.result.now
    c.recipes-recipes.ensures.recipes c.loop-place-test.true c.recipe_at-recipe.ensures c.loop-place.invariant.ready in
    stage.runs

pub stage_tree-requires-clause-below : goal.stage_tree-requires-clause-below
stage_tree-requires-clause-below g c =
    below_shown c.args.table.now c.args.found.now c.recipes-recipes.result.now c.blobs-blobs.result.now c.args.chain.now c.loop-place.place c.recipe_at-recipe.result.now
    c.recipes-recipes.ensures.table c.requires.found c.recipes-recipes.ensures.recipes c.blobs-blobs.ensures.blobs c.recipe_at-recipe.ensures

pub returns-in-Err : goal.returns-in-Err
returns-in-Err g c =
    let stage = stage_at c.args.found.now c.args.table.now.blobs c.recipes-recipes.result.now c.args.table.now.recipes c.args.chain.now c.loop-place.place c.recipe_at-recipe.result.now
    c.recipes-recipes.ensures.recipes c.loop-place-test.true c.recipe_at-recipe.ensures c.loop-place.invariant.ready in
    on_ok c.fault_outcome.result
    (λ outcome is. is.1
    ∙ stages_stop c.args.found.now c.args.table.now.blobs c.args.table.now.recipes c.args.chain.now c.loop-place.place (key_at c.args.chain.now c.loop-place.place) c.recipe_at-recipe.result.now c.loop-place.tree c.in-Err.fault _ stage
    (ap (λ (blobs : List (List ℕ)). option_map (λ (work : Work). does work c.loop-place.tree) (work_of c.args.found.now blobs c.recipe_at-recipe.result.now)) (sym c.blobs-blobs.ensures.blobs) ∙ c.in-Err.ensures.made (λ e. is.0 (cc)))
    c.loop-place.invariant.made)
    c.fault_outcome.ensures

pub loop-place-preserved : goal.loop-place-preserved
loop-place-preserved g c =
    let stage = stage_at c.args.found.now c.args.table.now.blobs c.recipes-recipes.result.now c.args.table.now.recipes c.args.chain.now c.loop-place.place c.recipe_at-recipe.result.now
    c.recipes-recipes.ensures.recipes c.loop-place-test.true c.recipe_at-recipe.ensures c.loop-place.invariant.ready in
    record {
      ready = stage.later;
      made = stages_go_on c.args.found.now c.args.table.now.blobs c.args.table.now.recipes c.args.chain.now c.loop-place.place (key_at c.args.chain.now c.loop-place.place) c.recipe_at-recipe.result.now c.loop-place.tree c.in-Ok.tree _ stage
          (ap (λ (blobs : List (List ℕ)). option_map (λ (work : Work). does work c.loop-place.tree) (work_of c.args.found.now blobs c.recipe_at-recipe.result.now)) (sym c.blobs-blobs.ensures.blobs) ∙ c.in-Ok.ensures.made (λ e. cc))
          c.loop-place.invariant.made;
    }
