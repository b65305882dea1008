use Rattle.std.proofs.Common.{◌≡◌, ◌+◌, ◌-◌, [], length}
use Rattle.osb_store.specs.Bytes.{IsBytes}
use Rattle.osb_store.specs.Lists.{items_at}
use Rattle.osb_store.specs.Recipes.{recipe_at, is_recipe}
use Rattle.osb_store.specs.Rules.{EachMay, MayBeRecipe}
use Rattle.osb_store.proofs.lists.read_recipes.Given as goal

abbrev pub invariant-loop-i : goal.invariant-loop-i
invariant-loop-i l = record {
  blobs : l.recipes.blobs ≡ l.fn.table.blobs;
  count : length l.recipes.recipes ≡ l.i;
  bytes : IsBytes l.rest;
  each : EachMay (MayBeRecipe l.fn.table.blobs) [] l.recipes.recipes;
  so : items_at recipe_at (is_recipe l.fn.table.blobs) (l.count - l.i) (l.place + l.i) l.recipes.recipes l.rest ≡ items_at recipe_at (is_recipe l.fn.table.blobs) l.count l.place [] l.bytes;
}
