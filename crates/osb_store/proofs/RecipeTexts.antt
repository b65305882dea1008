-- The texts of recipes, read back.
use Rattle.std.proofs.Common.{◌≡◌, ℕ, ◌≤◌, true, List, ◌++◌, length, Some, sym, ap, subst}
use Rattle.std.specs.List.{AllByRecursion}
use Rattle.std.specs.Option.{option_map}
use Rattle.std.specs.Str.{is_utf8}
use Rattle.osb_recipe.specs.Kinds.{type_text}
use Rattle.osb_recipe.specs.Recipes.{Origin}
use Rattle.osb_recipe.specs.Tables.{IsReadRecipe}
use Rattle.osb_store.specs.Fields.{field}
use Rattle.osb_store.specs.Texts.{ref_text, build_text, recipe_text}
use Rattle.osb_store.specs.Reading.{list_at, text_at, ref_at, build_at, input_at}
use Rattle.osb_store.specs.Recipes.{RecipeParts, origin_of, recipe_of_parts, recipe_parts_at, kind_of_texts, recipe_at}
use Rattle.osb_store.proofs.Spelling.{Spells, option_map_some, both_spell, parsed_spells, text_spells}
use Rattle.osb_store.proofs.OptionTexts.{options_utf8, type_utf8}
use Rattle.osb_store.proofs.OptionKinds.{kind_read, kind_again}
use Rattle.osb_store.proofs.InputTexts.{RefFits, ref_spells, BuildFits, build_spells, InputFits, inputs_text, inputs_spell, field_long}

abbrev IsText : List ℕ → Type 0
IsText text = is_utf8 text ≡ true

abbrev parts_text : RecipeParts → List ℕ
parts_text parts = field parts.0 ++ (field parts.1.0 ++ (build_text parts.1.1.0 ++ (ref_text parts.1.1.1.0 ++ inputs_text parts.1.1.1.1)))

abbrev PartsFit : RecipeParts → Type 0
PartsFit parts = IsText parts.0 × (IsText parts.1.0 × (BuildFits parts.1.1.0 × (RefFits parts.1.1.1.0 × AllByRecursion InputFits parts.1.1.1.1)))

parts_spell : Spells parts_text PartsFit recipe_parts_at
parts_spell =
    both_spell field IsText text_at text_spells _ _ _ (both_spell field IsText text_at text_spells _ _ _
    (both_spell build_text BuildFits build_at build_spells _ _ _ (both_spell ref_text RefFits ref_at ref_spells inputs_text (AllByRecursion InputFits) (list_at input_at) inputs_spell)))

-- its kind is read, and its numbers are those of 64 bits
pub record RecipeFits (recipe : Origin) : Type 0 where
  pub read : IsReadRecipe recipe
  pub within_build : BuildFits recipe.build
  pub within_base : RefFits recipe.base
  pub within : AllByRecursion InputFits recipe.inputs

abbrev parts_of : Origin → RecipeParts
parts_of recipe = (type_text recipe.kind, (recipe.options_text, (recipe.build, (recipe.base, recipe.inputs))))

made_of : (parts : RecipeParts) (recipe : Origin) → PartsFit parts → recipe_of_parts parts ≡ Some recipe → (parts ≡ parts_of recipe) × RecipeFits recipe
made_of parts recipe fits e =
    option_map_some (origin_of parts) (kind_of_texts parts.0 parts.1.0) recipe e (λ stage first same.
    let read = kind_read parts.0 parts.1.0 stage first in
    let Made : Origin → Type 0 = λ r. (parts ≡ parts_of r) × RecipeFits r in
    subst Made same (λ i. (sym read.0 i, parts.1), record { read = read.1; within_build = fits.1.1.0; within_base = fits.1.1.1.0; within = fits.1.1.1.1 }))

made_again : (recipe : Origin) → RecipeFits recipe → (recipe_of_parts (parts_of recipe) ≡ Some recipe) × PartsFit (parts_of recipe)
made_again recipe fits =
    let read = fits.read in (
      ap (option_map (origin_of (parts_of recipe))) (kind_again recipe.options_text recipe.kind read),
      (type_utf8 recipe.kind, (options_utf8 read.options recipe.options_text read.text, (fits.within_build, (fits.within_base, fits.within)))),
    )

pub recipe_spells : Spells recipe_text RecipeFits recipe_at
unfolding recipe_at
recipe_spells = parsed_spells parts_text PartsFit recipe_parts_at parts_spell recipe_of_parts parts_of RecipeFits made_of made_again

pub recipe_long : (recipe : Origin) → 8 ≤ length (recipe_text recipe)
recipe_long recipe = field_long (type_text recipe.kind) (field recipe.options_text ++ (build_text recipe.build ++ (ref_text recipe.base ++ inputs_text recipe.inputs)))
