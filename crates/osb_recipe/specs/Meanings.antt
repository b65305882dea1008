-- What recipes mean: a tree, or none. It is told by what the recipes before them mean, and by nothing else.
use Rattle.std.specs.Prelude.{ℕ, List, [], ◌∷◌, ◌++◌, slice_get, Option, Some, None, option_map, option_and_then}
use Rattle.std.specs.Result.{result_ok}
use Rattle.osb_tree.specs.Trees.{Listing, empty_tree}
use Rattle.osb_tree.specs.declared.numbers.Key.{Key}
use Rattle.osb_recipe.specs.Pairs.{both}
use Rattle.osb_recipe.specs.FilesTrees.{blobs_at}
use Rattle.osb_recipe.specs.Works.{Given, a_tree, some_items, Work, does, run_all}
use Rattle.osb_recipe.specs.Recipes.{Origin}
use Rattle.osb_recipe.specs.Tables.{TableData}
use Rattle.osb_recipe.specs.declared.references.TreeRef.{TreeRef}
use Rattle.osb_recipe.specs.declared.references.TreeRef.TheVariants.{Empty, Of}
use Rattle.osb_recipe.specs.declared.references.InputRecipe.{InputRecipe}
use Rattle.osb_recipe.specs.declared.references.InputRecipe.TheVariants.{Tree, Files}
use Rattle.osb_recipe.specs.declared.outcomes.Outcome.{Outcome}

-- by key, of the first recipes of a table
abbrev pub Found : Type 0
Found = List (Option Listing)

abbrev pub tree_at : Found → TreeRef → Option Listing
tree_at found Empty = Some empty_tree
tree_at found (Of key) = option_and_then (λ tree. tree) (slice_get found key.0)

-- ---- a recipe as a stage that can run, where all that it is made with has trees

abbrev pub build_at : Found → Option TreeRef → Option (Option Listing)
build_at found None = Some None
build_at found (Some ref) = option_map Some (tree_at found ref)

abbrev pub input_at : Found → List (List ℕ) → InputRecipe → Option Given
input_at found blobs (Tree ref) = option_map a_tree (tree_at found ref)
input_at found blobs (Files numbers) = Some (some_items (blobs_at blobs numbers))

abbrev pub inputs_at : Found → List (List ℕ) → List (List ℕ × InputRecipe) → Option (List (List ℕ × Given))
inputs_at found blobs [] = Some []
inputs_at found blobs (input ∷ inputs) = both (λ given others. (input.0, given) ∷ others) (input_at found blobs input.1) (inputs_at found blobs inputs)

abbrev pub work_of : Found → List (List ℕ) → Origin → Option Work
work_of found blobs recipe = both (λ build inputs. record { kind = recipe.kind; build = build; inputs = inputs }) (build_at found recipe.build) (inputs_at found blobs recipe.inputs)

-- ---- the tree of each recipe

abbrev pub tree_made : Found → List (List ℕ) → Origin → Option Listing
tree_made found blobs recipe = option_and_then (λ tree. tree) (both (λ work base. result_ok (does work base)) (work_of found blobs recipe) (tree_at found recipe.base))

-- of those behind the ones that are found already
abbrev pub meanings_after : List (List ℕ) → Found → List Origin → Found
meanings_after blobs found [] = []
meanings_after blobs found (recipe ∷ recipes) = tree_made found blobs recipe ∷ meanings_after blobs (found ++ tree_made found blobs recipe ∷ []) recipes

unfoldable pub meanings : TableData → Found
meanings table = meanings_after table.blobs [] table.recipes

-- what a key means
abbrev pub meaning : TableData → Key → Option Listing
meaning table key = option_and_then (λ tree. tree) (slice_get (meanings table) key.0)

-- ---- what a chain of keys means

abbrev pub work_at : TableData → Key → Option Work
work_at table key = option_and_then (work_of (meanings table) table.blobs) (slice_get table.recipes key.0)

abbrev pub works_at : TableData → List Key → Option (List Work)
works_at table [] = Some []
works_at table (key ∷ keys) = both (λ work works. work ∷ works) (work_at table key) (works_at table keys)

-- the tree that its stages make of the empty tree, one after another, the first fault with its place, or blocked
abbrev pub meant : TableData → List Key → Outcome
meant table chain = run_all (works_at table chain)
