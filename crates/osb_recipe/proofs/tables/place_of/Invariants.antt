use Rattle.std.proofs.Common.{◌≡◌, ◌+◌, drop}
use Rattle.osb_recipe.specs.Recipes.{same_recipe}
use Rattle.osb_recipe.specs.Interning.{place_in}
use Rattle.osb_recipe.proofs.tables.place_of.Given as goal

abbrev pub invariant-loop-place : goal.invariant-loop-place
invariant-loop-place l = l.place + place_in same_recipe (drop l.place l.recipes) l.recipe ≡ place_in same_recipe l.recipes l.recipe
