-- Which recipes can run: what they are made with has trees.
use Rattle.std.specs.Prelude.{ℕ, ◌&&◌, Bool, true, false, List, slice_get, Option, Some, None, is_some}
use Rattle.std.specs.List.{list_all}
use Rattle.osb_tree.specs.declared.numbers.Key.{Key}
use Rattle.osb_recipe.specs.Recipes.{Origin}
use Rattle.osb_recipe.specs.Meanings.{Found, tree_at}
use Rattle.osb_recipe.specs.declared.references.TreeRef.{TreeRef}
use Rattle.osb_recipe.specs.declared.references.InputRecipe.{InputRecipe}
use Rattle.osb_recipe.specs.declared.references.InputRecipe.TheVariants.{Tree, Files}

abbrev pub has_tree : Found → TreeRef → Bool
has_tree found ref = is_some (tree_at found ref)

abbrev pub has_build : Found → Option TreeRef → Bool
has_build found None = true
has_build found (Some ref) = has_tree found ref

-- items are always there
abbrev pub has_input : Found → InputRecipe → Bool
has_input found (Tree ref) = has_tree found ref
has_input found (Files numbers) = true

abbrev pub has_inputs : Found → List (List ℕ × InputRecipe) → Bool
has_inputs found inputs = list_all (λ input. has_input found input.1) inputs

abbrev pub can_run : Found → Origin → Bool
can_run found recipe = has_build found recipe.build && has_inputs found recipe.inputs

-- a key that the recipes lack can't
abbrev pub entry_can_run : Found → Option Origin → Bool
entry_can_run found None = false
entry_can_run found (Some recipe) = can_run found recipe

abbrev pub key_can_run : Found → List Origin → Key → Bool
key_can_run found recipes key = entry_can_run found (slice_get recipes key.0)

abbrev pub keys_can_run : Found → List Origin → List Key → Bool
keys_can_run found recipes keys = list_all (λ key. key_can_run found recipes key) keys
