use Rattle.std.proofs.Common.{ℕ, List, length, sym, ap, ◌∙◌, subst}
use Rattle.std.specs.Prelude.{slice_get}
use Rattle.osb_recipe.specs.Recipes.{Origin, IsBelow}
use Rattle.osb_recipe.proofs.Chains.{recipe-below}
use Rattle.osb_tasks.proofs.stages.stage_at.Goals as goal

pub stage_made-requires : goal.stage_made-requires
stage_made-requires g c =
    let table = c.args.table.now in
    let recipe = c.in-Some.recipe.now in
    let at = ap (λ (recipes : List Origin). slice_get recipes c.args.key.0) (sym c.recipes.ensures.recipes) ∙ sym c.in-Some.ensures in
    let is : IsBelow (length table.recipes) (length table.blobs) recipe = recipe-below table c.args.key recipe c.recipes.ensures.table at in
    record {
      below = subst (λ (keys : ℕ). IsBelow keys (length c.blobs.result.now) recipe) (sym c.requires.found) (subst (λ (blobs : List (List ℕ)). IsBelow (length table.recipes) (length blobs) recipe) (sym c.blobs.ensures.blobs) is);
    }
