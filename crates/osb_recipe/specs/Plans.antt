-- Plans: tasks, each a chain of recipes, that are built one after another.
use Rattle.std.specs.Prelude.{◌≡◌, ℕ, ◌<◌, ◌≤◌, ◌==◌, Bool, true, false, List, [], ◌∷◌, ◌++◌, map, filter, reverse, length, slice_get, Option, Some, None}
use Rattle.std.specs.List.{All, flat_map, list_any, range_with_len}
use Rattle.std.specs.List.Sorted.{IsStrictlySortedBy}
use Rattle.std.specs.Map.{keys_of}
use Rattle.std.specs.Cmp.Lexicographic.{slice_cmp}
use Rattle.std.specs.Ordering.{nat_cmp}
use Rattle.sha2.specs.Sha256.{sha256}
use Rattle.osb_tree.specs.declared.numbers.Key.{Key}
use Rattle.osb_tree.specs.declared.numbers.TaskNo.{TaskNo}
use Rattle.osb_recipe.specs.FilesTrees.{blobs_at}
use Rattle.osb_recipe.specs.Recipes.{Origin}
use Rattle.osb_recipe.specs.Tables.{TableData, IsChain, last_of}
use Rattle.osb_recipe.specs.declared.references.TreeRef.{TreeRef}
use Rattle.osb_recipe.specs.declared.references.TreeRef.TheVariants.{Empty, Of}
use Rattle.osb_recipe.specs.declared.references.InputRecipe.{InputRecipe}
use Rattle.osb_recipe.specs.declared.references.InputRecipe.TheVariants.{Tree, Files}
use Rattle.osb_recipe.specs.declared.plans.Task.{Task}
use Rattle.osb_recipe.specs.declared.plans.Plan.{Plan}

-- ---- what chains are built with

abbrev pub ref_keys : TreeRef → List Key
ref_keys Empty = []
ref_keys (Of key) = key ∷ []

abbrev pub build_keys : Option TreeRef → List Key
build_keys None = []
build_keys (Some ref) = ref_keys ref

abbrev pub input_keys : InputRecipe → List Key
input_keys (Tree ref) = ref_keys ref
input_keys (Files numbers) = []

abbrev pub recipe_needs : Option Origin → List Key
recipe_needs None = []
recipe_needs (Some recipe) = build_keys recipe.build ++ flat_map (λ input. input_keys input.1) recipe.inputs

-- the recipes whose trees are a build tree or an input of a key of a chain
abbrev pub needs_of : TableData → List Key → List Key
needs_of table chain = flat_map (λ key. recipe_needs (slice_get table.recipes key.0)) chain

abbrev pub has_key : List Key → Key → Bool
has_key keys key = list_any (λ held. held.0 == key.0) keys

-- the chain ends with one of some keys
abbrev pub ends_with : List Key → TreeRef → Bool
ends_with keys Empty = false
ends_with keys (Of key) = has_key keys key

abbrev pub no_of : ℕ → TaskNo
no_of number = record { 0 = number }

abbrev pub ends_task : List (List Key) → List Key → ℕ → Bool
ends_task chains keys number = ends_at (slice_get chains number)
  where
    ends_at : Option (List Key) → Bool
    ends_at None = false
    ends_at (Some chain) = ends_with keys (last_of chain)

-- the tasks of some chains that a chain is built with, rising
abbrev pub deps_of : TableData → List (List Key) → List Key → List TaskNo
deps_of table chains chain = map no_of (filter (ends_task chains (needs_of table chain)) (range_with_len 0 (length chains)))

-- ---- sound plans

abbrev pub chains_of : List Task → List (List Key)
chains_of tasks = map (λ task. task.chain) tasks

-- the digests of a files input's blobs rise, and no blob is larger than an item may be
pub record AreItems (items : List (List ℕ)) : Type 0 where
  pub rising : IsStrictlySortedBy (slice_cmp nat_cmp) (map sha256 items)
  pub small : All (λ bytes. length bytes ≤ 16777216) items

abbrev pub HasItems : TableData → InputRecipe → Type 0
HasItems table (Tree ref) = Unit {0}
HasItems table (Files numbers) = AreItems (blobs_at table.blobs numbers)

-- the input names of a recipe rise
pub record IsInOrder (table : TableData) (recipe : Origin) : Type 0 where
  pub named : IsStrictlySortedBy (slice_cmp nat_cmp) (keys_of recipe.inputs)
  pub items : All (λ input. HasItems table input.1) recipe.inputs

-- a task of a plan, by its number
pub record IsTask (table : TableData) (chains : List (List Key)) (number : ℕ) (task : Task) : Type 0 where
  pub chain : IsChain table task.chain
  pub marked : (kept : Key → Bool) × (task.marked ≡ filter kept (reverse task.chain))
  pub deps : task.deps ≡ deps_of table chains task.chain
  pub lower : All (λ dep. dep.0 < number) task.deps
  -- what it is built with are trees of tasks
  pub met : (key : Key) → has_key (needs_of table task.chain) key ≡ true → (dep : TaskNo) × (dep.0 < number) × (ends : List Key) × (slice_get chains dep.0 ≡ Some ends) × (last_of ends ≡ Of key)
  pub recipes : (key : Key) (recipe : Origin) → has_key task.chain key ≡ true → slice_get table.recipes key.0 ≡ Some recipe → IsInOrder table recipe

pub record IsSound (plan : Plan) : Type 0 where
  pub tasks : (number : ℕ) (task : Task) → slice_get plan.tasks number ≡ Some task → IsTask plan.table (chains_of plan.tasks) number task
  pub builds : All (λ build. All (λ number. number.0 < length plan.tasks) build) plan.builds
