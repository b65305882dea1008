-- The next recipe, when it is well behind those before it.
use Rattle.std.proofs.Common.{◌≡◌, ℕ, ◌-◌, ◌^◌, ◌<◌, ◌≤◌, ◌&&◌, Bool, true, false, not, List, [], ◌++◌, length, take, cond, Option, Some, None, sym, ap, ◌∙◌, arith, length-append}
use Rattle.std.specs.List.{list_any}
use Rattle.std.specs.Option.{option_and_then}
use Rattle.std.proofs.lemmas.List.{take_at}
use Rattle.osb_recipe.specs.Recipes.{Origin, same_recipe}
use Rattle.osb_store.specs.Bytes.{IsBytes}
use Rattle.osb_store.specs.Places.{same_text}
use Rattle.osb_store.specs.Rules.{EachMay, MayBeRecipe}
use Rattle.osb_store.specs.Texts.{recipe_text}
use Rattle.osb_store.specs.Recipes.{recipe_at, is_recipe, is_well_recipe}
use Rattle.osb_store.specs.Lists.{checked_at}
use Rattle.osb_store.proofs.RecipeRules.{recipe_by_text}

pub front_of : (bytes text rest : List ℕ) → bytes ≡ text ++ rest → take (length bytes - length rest) bytes ≡ text
front_of bytes text rest e =
    let sizes = ap length e in
    let size : length text ≡ length bytes - length rest = omega (arith, sizes, length-append text rest) in
    ap (take (length bytes - length rest)) e ∙ take_at text rest (length bytes - length rest) size

module _ (blobs : List (List ℕ)) (before : List Origin) (bytes : List ℕ) (x : Origin) (rest : List ℕ)
    (few : length blobs < 2 ^ 64) (small : length before < 2 ^ 64) (each : EachMay (MayBeRecipe blobs) [] before)
    (b : IsBytes bytes) (short : length bytes < 2 ^ 64) (read : recipe_at bytes ≡ Some (x, rest)) (well : is_well_recipe blobs (length before) x ≡ true) where
  by_text : (bytes ≡ recipe_text x ++ rest) × (list_any (λ recipe. same_text (recipe_text x) (recipe_text recipe)) before ≡ list_any (same_recipe x) before)
  by_text = recipe_by_text blobs few bytes before x rest b short small each read

  pub rest_within : length rest ≤ length bytes
  rest_within =
      let sizes = ap length by_text.0 in
      omega (arith, sizes, length-append (recipe_text x) rest)

  pub text_in_front : take (length bytes - length rest) bytes ≡ recipe_text x
  text_in_front = front_of bytes (recipe_text x) rest by_text.0

  pub checked_by_text : (has : Bool) → has ≡ list_any (λ recipe. same_text (take (length bytes - length rest) bytes) (recipe_text recipe)) before
      → checked_at recipe_at (is_recipe blobs) before bytes ≡ cond {A = Option (Origin × List ℕ)} has None (Some (x, rest))
  checked_by_text has e =
      let told : has ≡ list_any (same_recipe x) before = e ∙ ap (λ (text : List ℕ). list_any (λ recipe. same_text text (recipe_text recipe)) before) text_in_front ∙ by_text.1 in
      ap (option_and_then (λ (y : Origin × List ℕ). cond (is_recipe blobs before y.0) (Some y) None)) read
      ∙ (λ i. cond {A = Option (Origin × List ℕ)} (well i && not (sym told i)) (Some (x, rest)) None) ∙ picked has
    where
      picked : (b : Bool) → cond {A = Option (Origin × List ℕ)} (true && not b) (Some (x, rest)) None ≡ cond b None (Some (x, rest))
      picked true = λ i. None
      picked false = λ i. Some (x, rest)
