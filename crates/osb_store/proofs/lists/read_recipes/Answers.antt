use Rattle.std.proofs.Common.{◌≡◌, ◌+◌, ◌<◌, ◌^◌, List, [], ◌∷◌, ◌++◌, length, Some, refl, sym, ap, ◌∙◌, subst, arith}
use Rattle.osb_recipe.specs.Recipes.{Origin}
use Rattle.osb_store.specs.Lists.{checked_at, items_at}
use Rattle.osb_store.specs.Recipes.{recipe_at, is_recipe}
use Rattle.osb_store.specs.Rules.{EachMay, MayBeRecipe}
use Rattle.osb_store.specs.Texts.{recipe_text}
use Rattle.osb_store.proofs.Fits.{recipes_fit}
use Rattle.osb_store.proofs.Items.{checked_takes, each_may-push}
use Rattle.osb_store.proofs.Spelling.{bytes_behind}
use Rattle.osb_store.proofs.Turns.{turned}
use Rattle.osb_store.proofs.lists.read_recipes.Goals as goal

pub with-requires-clause-below : goal.with-requires-clause-below
with-requires-clause-below c =
    let held = c.loop-i.recipes in
    let sizes = ap length c.loop-i.invariant.blobs in
    let few : length held.blobs < 2 ^ 64 = omega (arith, sizes) in
    (checked_takes recipe_text (MayBeRecipe held.blobs) recipe_at (is_recipe held.blobs) (recipes_fit held.blobs few) held.recipes c.loop-i.rest.now (c.in-Ok.recipe, c.in-Ok.behind.now) c.loop-i.invariant.bytes c.in-Ok.ensures.recipe).fits.below

pub loop-i-preserved : goal.loop-i-preserved
loop-i-preserved c =
    let held = c.loop-i.recipes in
    let blobs = c.args.table.blobs in
    let made = c.in_ok-recipes-in-Ok.recipes in
    let few : length blobs < 2 ^ 64 = omega arith in
    let next : checked_at recipe_at (is_recipe blobs) held.recipes c.loop-i.rest.now ≡ Some (c.in-Ok.recipe, c.in-Ok.behind.now) =
    ap (λ (held_blobs : List (List _)). checked_at recipe_at (is_recipe held_blobs) held.recipes c.loop-i.rest.now) (sym c.loop-i.invariant.blobs) ∙ c.in-Ok.ensures.recipe in
    let taken = checked_takes recipe_text (MayBeRecipe blobs) recipe_at (is_recipe blobs) (recipes_fit blobs few) held.recipes c.loop-i.rest.now (c.in-Ok.recipe, c.in-Ok.behind.now) c.loop-i.invariant.bytes next in
    let place = 2 + length c.blobs.result.now in
    let is : made.recipes ≡ held.recipes ++ c.in-Ok.recipe ∷ [] = c.in_ok-recipes-in-Ok.ensures.recipes in
    let turn = turned recipe_at (is_recipe blobs) c.args.count c.loop-i.i place held.recipes held.recipes made.recipes c.loop-i.rest.now (items_at recipe_at (is_recipe blobs) c.args.count place [] c.args.bytes.now) (c.in-Ok.recipe, c.in-Ok.behind.now) refl is c.loop-i.invariant.count (omega arith) c.loop-i.invariant.so next in
    record {
      blobs = c.in_ok-recipes-in-Ok.ensures.blobs ∙ c.loop-i.invariant.blobs;
      count = turn.0;
      bytes = bytes_behind (recipe_text c.in-Ok.recipe) c.in-Ok.behind.now c.loop-i.rest.now taken.parts c.loop-i.invariant.bytes;
      each = subst (λ (xs : List Origin). EachMay (MayBeRecipe blobs) [] xs) (sym is) (each_may-push (MayBeRecipe blobs) held.recipes c.in-Ok.recipe c.loop-i.invariant.each taken.fits);
      so = turn.1;
    }
