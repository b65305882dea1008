use Rattle.std.proofs.Common.{ℕ, List, length, sym, ap, ◌∙◌, subst, arith}
use Rattle.osb_recipe.specs.Recipes.{Origin, IsBelow}
use Rattle.osb_plan.specs.Planning.{stage_recipe}
use Rattle.osb_plan.specs.Held.{HasBlobs}
use Rattle.osb_plan.proofs.Steps.{left_shown, pushed_on, stage_turn, stage_recipe-below, ends_below-more}
use Rattle.osb_plan.proofs.chains.pipeline_keys.Goals as goal

pub intern-requires : goal.intern-requires
intern-requires c =
    let table = c.loop-stage.table in
    let Held : List (List ℕ) → Type 0 = λ blobs. HasBlobs blobs c.args.gathered.now in
    let Below : Origin → Type 0 = λ recipe. IsBelow (length table.recipes) (length table.blobs) recipe in
    record {
      below = subst Below (sym c.in_ok-recipe.ensures.recipe)
          (stage_recipe-below c.args.gathered.now c.args.chains.now (length table.recipes) table.blobs c.args.pipeline.now.build c.loop-stage.base c.stage-item.result
          (subst Held (sym c.loop-stage.invariant.blobs) c.requires.held)
          (ends_below-more _ _ c.args.chains.now c.loop-stage.invariant.grown c.requires.below) c.loop-stage.invariant.base);
    }

pub loop-stage-preserved : goal.loop-stage-preserved
loop-stage-preserved c =
    let left = left_shown c.as_slice-stage-items.result.now c.args.pipeline.now.stages c.loop-stage.stage-index c.stage-item.result c.as_slice-stage-items.ensures.items c.loop-stage-test.true c.stage-item.is in
    let made = c.in_ok-recipe.ensures.recipe ∙ ap (λ (blobs : List (List ℕ)). stage_recipe c.args.gathered.now c.args.chains.now blobs c.args.pipeline.now.build c.loop-stage.base c.stage-item.result) c.loop-stage.invariant.blobs in
    let turn = stage_turn (stage_recipe c.args.gathered.now c.args.chains.now c.args.table.now.blobs c.args.pipeline.now.build) c.loop-stage.base c.loop-stage.table c.intern.new.self _ _ c.stage-item.result c.in_ok-recipe.recipe c.in_ok-key.key
    left made c.in_ok-key.ensures.key c.in_ok-key.ensures.recipes c.in_ok-key.ensures.blobs in
    record {
      keys = pushed_on _ _ _ _ _ _ c.in_ok-push.ensures.items turn.keys c.loop-stage.invariant.keys;
      table = sym turn.table ∙ c.loop-stage.invariant.table;
      blobs = c.in_ok-key.ensures.blobs ∙ c.loop-stage.invariant.blobs;
      grown = omega (arith, c.in_ok-key.ensures.grown, c.loop-stage.invariant.grown);
      base = c.in_ok-key.ensures.within;
    }
