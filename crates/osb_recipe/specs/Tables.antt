-- Tables of recipes and of the blobs that they use, each by its number.
use Rattle.std.specs.Prelude.{◌≡◌, ℕ, ◌+◌, ◌==◌, Bool, List, [], ◌∷◌, ◌++◌, length, slice_get, Some}
use Rattle.std.specs.List.{AllByRecursion}
use Rattle.std.specs.Cmp.Lexicographic.{pointwise}
use Rattle.osb_tree.specs.declared.numbers.Key.{Key}
use Rattle.osb_recipe.specs.Recipes.{Origin, IsReadFrom, IsBelow}
use Rattle.osb_recipe.specs.declared.references.TreeRef.{TreeRef}
use Rattle.osb_recipe.specs.declared.references.TreeRef.TheVariants.{Empty, Of}

pub record TableData : Type 0 where
  pub recipes : List Origin
  pub blobs : List (List ℕ)

abbrev pub same_bytes : List ℕ → List ℕ → Bool
same_bytes a b = pointwise ◌==◌ a b

-- recipes whose keys count from a first one: each refers to those before it alone
abbrev pub AreRecipes : ℕ → ℕ → List Origin → Type 0
AreRecipes key blobs [] = Unit {0}
AreRecipes key blobs (recipe ∷ recipes) = IsBelow key blobs recipe × AreRecipes (key + 1) blobs recipes

abbrev pub IsReadRecipe : Origin → Type 0
IsReadRecipe recipe = IsReadFrom recipe.kind recipe.options_text

pub record IsTable (table : TableData) : Type 0 where
  pub below : AreRecipes 0 (length table.blobs) table.recipes
  pub read : AllByRecursion IsReadRecipe table.recipes

-- a later table has all that the earlier one has, under the same numbers
pub record Extends (earlier later : TableData) : Type 0 where
  pub recipes : List Origin
  pub blobs : List (List ℕ)
  pub more_recipes : later.recipes ≡ earlier.recipes ++ recipes
  pub more_blobs : later.blobs ≡ earlier.blobs ++ blobs

-- ---- chains: the keys of a pipeline's stages, each of which changes the tree of the one before

abbrev pub IsChainFrom : TableData → TreeRef → List Key → Type 0
IsChainFrom table base [] = Unit {0}
IsChainFrom table base (key ∷ keys) = ((recipe : Origin) × (slice_get table.recipes key.0 ≡ Some recipe) × (recipe.base ≡ base)) × IsChainFrom table (Of key) keys

abbrev pub IsChain : TableData → List Key → Type 0
IsChain table chain = IsChainFrom table Empty chain

-- the tree of the last key, or else this one
abbrev pub last_from : TreeRef → List Key → TreeRef
last_from ref [] = ref
last_from ref (key ∷ keys) = last_from (Of key) keys

-- the tree of the last key, or the empty tree
abbrev pub last_of : List Key → TreeRef
last_of keys = last_from Empty keys
