-- Tables with one more recipe, and with more blobs.
use Rattle.std.proofs.Common.{◌≡◌, ℕ, ◌≤◌, Bool, true, false, cond, List, [], ◌∷◌, ◌++◌, length, nat_lt, Some, refl, ap, arith, length-append}
use Rattle.std.specs.Prelude.{slice_get}
use Rattle.std.specs.Map.{values_of}
use Rattle.osb_recipe.specs.Recipes.{Origin, IsBelow, same_recipe}
use Rattle.osb_recipe.specs.Interning.{place_in, interned_all}
use Rattle.osb_recipe.specs.Tables.{TableData, IsReadRecipe, IsTable, Extends, same_bytes}
use Rattle.osb_recipe.proofs.Exact.{exact_recipe}
use Rattle.osb_recipe.proofs.Interning.{Tells, IsLonger, interned-longer, interned-place}
use Rattle.osb_recipe.proofs.Growing.{AreRecipes-more_blobs, table_with_recipe}
use Rattle.osb_manifest.specs.Solo.{Blobs}
use Rattle.osb_plan.specs.Planning.{key_of, with_recipe, with_blobs}
use Rattle.osb_plan.proofs.HeldItems.{IsLonger-itself, IsLonger-later, interned_all-longer}

-- ---- later tables

extends : (table later : TableData) → IsLonger table.recipes later.recipes → IsLonger table.blobs later.blobs → Extends table later
extends table later recipes blobs = record { recipes = recipes.more; blobs = blobs.more; more_recipes = recipes.added; more_blobs = blobs.added }

pub Extends-itself : (table : TableData) → Extends table table
Extends-itself table = extends table table (IsLonger-itself table.recipes) (IsLonger-itself table.blobs)

pub longer_recipes : (table later : TableData) → Extends table later → IsLonger table.recipes later.recipes
longer_recipes table later is = record { more = is.recipes; added = is.more_recipes }

pub longer_blobs : (table later : TableData) → Extends table later → IsLonger table.blobs later.blobs
longer_blobs table later is = record { more = is.blobs; added = is.more_blobs }

pub Extends-later : (first middle last : TableData) → Extends first middle → Extends middle last → Extends first last
Extends-later first middle last early late =
    extends first last (IsLonger-later first.recipes middle.recipes last.recipes (longer_recipes first middle early) (longer_recipes middle last late)) (IsLonger-later first.blobs middle.blobs last.blobs (longer_blobs first middle early) (longer_blobs middle last late))

-- ---- one more recipe

pub Extends-with_recipe : (table : TableData) (recipe : Origin) → Extends table (with_recipe table recipe)
Extends-with_recipe table recipe = extends table (with_recipe table recipe) (interned-longer same_recipe table.recipes recipe) (IsLonger-itself table.blobs)

recipes_tell : Tells same_recipe IsReadRecipe
recipes_tell a b first second e = exact_recipe a b first second e

pub recipe_at-with_recipe : (table : TableData) (recipe : Origin) → IsTable table → IsReadRecipe recipe → slice_get (with_recipe table recipe).recipes (key_of table recipe).0 ≡ Some recipe
recipe_at-with_recipe table recipe is read = interned-place same_recipe IsReadRecipe recipes_tell table.recipes recipe is.read read

recipe_step : (b : Bool) (table : TableData) (recipe : Origin) → IsTable table → IsBelow (length table.recipes) (length table.blobs) recipe → IsReadRecipe recipe → IsTable (record { recipes = cond b table.recipes (table.recipes ++ recipe ∷ []); blobs = table.blobs })
recipe_step true table recipe is below read = is
recipe_step false table recipe is below read = table_with_recipe table.recipes (table.recipes ++ recipe ∷ []) table.blobs recipe refl is below read

pub IsTable-with_recipe : (table : TableData) (recipe : Origin) → IsTable table → IsBelow (length table.recipes) (length table.blobs) recipe → IsReadRecipe recipe → IsTable (with_recipe table recipe)
IsTable-with_recipe table recipe is below read = recipe_step (nat_lt (place_in same_recipe table.recipes recipe) (length table.recipes)) table recipe is below read

-- ---- more blobs

pub Extends-with_blobs : (table : TableData) (gathered : Blobs) → Extends table (with_blobs table gathered)
Extends-with_blobs table gathered = extends table (with_blobs table gathered) (IsLonger-itself table.recipes) (interned_all-longer same_bytes table.blobs (values_of gathered))

pub IsTable-with_blobs : (table : TableData) (gathered : Blobs) → IsTable table → IsTable (with_blobs table gathered)
IsTable-with_blobs table gathered is =
    let more : List (List ℕ) = interned_all same_bytes table.blobs (values_of gathered) in
    let longer = interned_all-longer same_bytes table.blobs (values_of gathered) in
    let long : length table.blobs ≤ length more = omega (arith, ap length longer.added, length-append table.blobs longer.more) in
    record { below = AreRecipes-more_blobs 0 (length table.blobs) (length more) table.recipes long is.below; read = is.read }
