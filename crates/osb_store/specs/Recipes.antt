-- For private clauses: recipes at the front of bytes, and the tests of what a recipe may be behind those before it.
use Rattle.std.specs.Prelude.{ℕ, Bool, true, false, not, ◌&&◌, List, [], ◌∷◌, length, map, nat_lt, slice_get, Option, Some, None, is_some, unwrap_or, option_map, option_and_then, if◌then◌else◌}
use Rattle.std.specs.List.{list_all, list_any}
use Rattle.std.specs.Result.{result_ok}
use Rattle.std.specs.Map.{keys_of}
use Rattle.std.specs.Ordering.{nat_cmp, is_lt}
use Rattle.std.specs.Cmp.Lexicographic.{slice_cmp}
use Rattle.serde_json.specs.Data.{Data}
use Rattle.serde_json.specs.Find.{as_object}
use Rattle.sha2.specs.Sha256.{sha256}
use Rattle.osb_pyjson.specs.PyText.{py_data}
use Rattle.osb_pyread.specs.Nests.{value_at}
use Rattle.osb_recipe.specs.Kinds.{kind_of}
use Rattle.osb_recipe.specs.Recipes.{Origin, same_recipe}
use Rattle.osb_recipe.specs.declared.kinds.StageKind.{StageKind}
use Rattle.osb_recipe.specs.declared.references.TreeRef.{TreeRef}
use Rattle.osb_recipe.specs.declared.references.TreeRef.TheVariants.{Empty, Of}
use Rattle.osb_recipe.specs.declared.references.InputRecipe.{InputRecipe}
use Rattle.osb_recipe.specs.declared.references.InputRecipe.TheVariants.{Tree, Files}
use Rattle.osb_store.specs.Places.{same_text}
use Rattle.osb_store.specs.Reading.{At, both_at, parsed_at, list_at, text_at, build_at, ref_at, input_at}

-- ---- options

abbrev pub is_text : List ℕ → Option (List ℕ) → Bool
is_text text None = false
is_text text (Some spelled) = same_text spelled text

abbrev pub if_spelled : List ℕ → Data × List ℕ → Option Data
if_spelled text read = if is_text text (py_data read.0) then Some (read.0) else None

-- the value, nested at most 127 deep, whose Python text this is
unfoldable pub options_of : List ℕ → Option Data
options_of text = option_and_then (if_spelled text) (value_at 127 text)

-- the kind that a type reads in an object
unfoldable pub kind_in : List ℕ → Data → Option StageKind
kind_in type options = if is_some (as_object options) then result_ok (kind_of type options) else None

-- the kind that a type reads in the object that a text spells
unfoldable pub kind_of_texts : List ℕ → List ℕ → Option StageKind
kind_of_texts type text = option_and_then (kind_in type) (options_of text)

-- ---- recipes

-- type, options, build, base and inputs
abbrev pub RecipeParts : Type 0
RecipeParts = List ℕ × (List ℕ × (Option TreeRef × (TreeRef × List (List ℕ × InputRecipe))))

abbrev pub origin_of : RecipeParts → StageKind → Origin
origin_of parts stage = record { kind = stage; options_text = parts.1.0; build = parts.1.1.0; base = parts.1.1.1.0; inputs = parts.1.1.1.1 }

abbrev pub recipe_of_parts : RecipeParts → Option Origin
recipe_of_parts parts = option_map (origin_of parts) (kind_of_texts parts.0 parts.1.0)

abbrev pub recipe_parts_at : At RecipeParts
recipe_parts_at = both_at text_at (both_at text_at (both_at build_at (both_at ref_at (list_at input_at))))

unfoldable pub recipe_at : At Origin
recipe_at = parsed_at recipe_of_parts recipe_parts_at

-- ---- what a recipe may be

abbrev pub is_ref_below : ℕ → TreeRef → Bool
is_ref_below keys Empty = true
is_ref_below keys (Of key) = nat_lt key.0 keys

abbrev pub is_build_below : ℕ → Option TreeRef → Bool
is_build_below keys None = true
is_build_below keys (Some ref) = is_ref_below keys ref

abbrev pub is_above : List ℕ → List ℕ → Bool
is_above last text = is_lt (slice_cmp nat_cmp last text)

-- each text is above the one before it, and the first above this one
abbrev pub rises_from : List ℕ → List (List ℕ) → Bool
rises_from last [] = true
rises_from last (text ∷ texts) = is_above last text && rises_from text texts

abbrev pub rises : List (List ℕ) → Bool
rises [] = true
rises (text ∷ texts) = rises_from text texts

abbrev pub are_below : ℕ → List ℕ → Bool
are_below count numbers = list_all (λ number. nat_lt number count) numbers

-- a blob, or no bytes where there is none
abbrev pub blob_at : List (List ℕ) → ℕ → List ℕ
blob_at blobs number = unwrap_or (slice_get blobs number) []

abbrev pub digests_at : List (List ℕ) → List ℕ → List (List ℕ)
digests_at blobs numbers = map (λ number. sha256 (blob_at blobs number)) numbers

abbrev pub is_well_content : List (List ℕ) → ℕ → InputRecipe → Bool
is_well_content blobs keys (Tree ref) = is_ref_below keys ref
is_well_content blobs keys (Files numbers) = are_below (length blobs) numbers && rises (digests_at blobs numbers)

-- all that it has is there, behind so many recipes, and its names and digests rise
abbrev pub is_well_recipe : List (List ℕ) → ℕ → Origin → Bool
is_well_recipe blobs keys recipe =
    is_build_below keys recipe.build && is_ref_below keys recipe.base && rises (keys_of recipe.inputs)
    && list_all (λ input. is_well_content blobs keys input.1) recipe.inputs

-- and no recipe before it is equal
abbrev pub is_recipe : List (List ℕ) → List Origin → Origin → Bool
is_recipe blobs before recipe = is_well_recipe blobs (length before) recipe && not (list_any (same_recipe recipe) before)
