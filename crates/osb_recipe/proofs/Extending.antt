-- What interning makes of a table: a later one, in which what was interned stands at its number.
use Rattle.std.proofs.Common.{◌≡◌, ℕ, Bool, true, false, cond, List, [], ◌∷◌, ◌++◌, length, nat_lt, Some, refl, sym, append-nil}
use Rattle.std.specs.Prelude.{slice_get}
use Rattle.std.specs.List.{AllByRecursion}
use Rattle.osb_recipe.specs.Recipes.{Origin, IsBelow, same_recipe}
use Rattle.osb_recipe.specs.Interning.{place_in, interned}
use Rattle.osb_recipe.specs.Tables.{TableData, same_bytes, IsReadRecipe, IsTable, Extends}
use Rattle.osb_recipe.proofs.Exact.{exact_bytes}
use Rattle.osb_recipe.proofs.Interning.{Tells, interned-longer, interned-place}
use Rattle.osb_recipe.proofs.Growing.{table_with_blob, table_with_recipe}
use Rattle.osb_recipe.proofs.Keys.{recipes_tell}

-- ---- a recipe

abbrev pub with_recipe : TableData → Origin → TableData
with_recipe table recipe = record { recipes = interned same_recipe table.recipes recipe; blobs = table.blobs }

pub Extends-with_recipe : (table : TableData) (recipe : Origin) → Extends table (with_recipe table recipe)
Extends-with_recipe table recipe =
    let longer = interned-longer same_recipe table.recipes recipe in
    record { recipes = longer.more; blobs = []; more_recipes = longer.added; more_blobs = sym (append-nil table.blobs) }

recipe_step : (b : Bool) (table : TableData) (recipe : Origin) → IsTable table → IsBelow (length table.recipes) (length table.blobs) recipe → IsReadRecipe recipe → IsTable (record { recipes = cond b table.recipes (table.recipes ++ recipe ∷ []); blobs = table.blobs })
recipe_step true table recipe is below read = is
recipe_step false table recipe is below read = table_with_recipe table.recipes (table.recipes ++ recipe ∷ []) table.blobs recipe refl is below read

pub IsTable-with_recipe : (table : TableData) (recipe : Origin) → IsTable table → IsBelow (length table.recipes) (length table.blobs) recipe → IsReadRecipe recipe → IsTable (with_recipe table recipe)
IsTable-with_recipe table recipe is below read = recipe_step (nat_lt (place_in same_recipe table.recipes recipe) (length table.recipes)) table recipe is below read

pub recipe_at-with_recipe : (table : TableData) (recipe : Origin) → IsTable table → IsReadRecipe recipe → slice_get (with_recipe table recipe).recipes (place_in same_recipe table.recipes recipe) ≡ Some recipe
recipe_at-with_recipe table recipe is read = interned-place same_recipe IsReadRecipe recipes_tell table.recipes recipe is.read read

-- ---- a blob

abbrev pub with_blob : TableData → List ℕ → TableData
with_blob table blob = record { recipes = table.recipes; blobs = interned same_bytes table.blobs blob }

pub Extends-with_blob : (table : TableData) (blob : List ℕ) → Extends table (with_blob table blob)
Extends-with_blob table blob =
    let longer = interned-longer same_bytes table.blobs blob in
    record { recipes = []; blobs = longer.more; more_recipes = sym (append-nil table.recipes); more_blobs = longer.added }

blob_step : (b : Bool) (table : TableData) (blob : List ℕ) → IsTable table → IsTable (record { recipes = table.recipes; blobs = cond b table.blobs (table.blobs ++ blob ∷ []) })
blob_step true table blob is = is
blob_step false table blob is = table_with_blob table.recipes table.blobs (table.blobs ++ blob ∷ []) blob refl is

pub IsTable-with_blob : (table : TableData) (blob : List ℕ) → IsTable table → IsTable (with_blob table blob)
IsTable-with_blob table blob is = blob_step (nat_lt (place_in same_bytes table.blobs blob) (length table.blobs)) table blob is

bytes_tell : Tells same_bytes (λ blob. Unit {0})
bytes_tell a b s t e = exact_bytes a b e

all_bytes : (blobs : List (List ℕ)) → AllByRecursion (λ (blob : List ℕ). Unit {0}) blobs
all_bytes [] = tt
all_bytes (blob ∷ blobs) = (tt, all_bytes blobs)

pub blob_at-with_blob : (table : TableData) (blob : List ℕ) → slice_get (with_blob table blob).blobs (place_in same_bytes table.blobs blob) ≡ Some blob
blob_at-with_blob table blob = interned-place same_bytes (λ (bytes : List ℕ). Unit {0}) bytes_tell table.blobs blob (all_bytes table.blobs) tt
