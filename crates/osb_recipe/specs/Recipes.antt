-- Recipes: the whole of what one stage's tree comes from.
use Rattle.std.specs.Prelude.{◌≡◌, ℕ, ◌<◌, ◌≤◌, ◌==◌, Bool, true, false, ◌&&◌, List, Option, Some, None, Ok}
use Rattle.std.specs.List.{All}
use Rattle.std.specs.Cmp.Lexicographic.{pointwise}
use Rattle.serde_json.specs.Data.{Data, depth}
use Rattle.osb_pyjson.specs.PyText.{py_data}
use Rattle.osb_stages.specs.Readers.{IsObject}
use Rattle.osb_recipe.specs.Kinds.{type_text, kind_of}
use Rattle.osb_recipe.specs.declared.kinds.StageKind.{StageKind}
use Rattle.osb_recipe.specs.declared.references.TreeRef.{TreeRef}
use Rattle.osb_recipe.specs.declared.references.TreeRef.TheVariants.{Empty, Of}
use Rattle.osb_recipe.specs.declared.references.InputRecipe.{InputRecipe}
use Rattle.osb_recipe.specs.declared.references.InputRecipe.TheVariants.{Tree, Files}

-- a recipe: a stage with Python's text of its options, the tree that it runs in, if any, the tree that it changes, and
-- what it has as inputs, by name
pub record Origin : Type 0 where
  pub kind : StageKind
  pub options_text : List ℕ
  pub build : Option TreeRef
  pub base : TreeRef
  pub inputs : List (List ℕ × InputRecipe)

-- a kind is what its type reads in the options of a text: an object nested at most 127 deep
pub record IsReadFrom (stage : StageKind) (spelled : List ℕ) : Type 0 where
  pub options : Data
  pub object : IsObject options
  pub shallow : depth options ≤ 127
  pub text : py_data options ≡ Some spelled
  pub kind : kind_of (type_text stage) options ≡ Ok stage

-- ---- which recipes are equal

abbrev pub same_ref : TreeRef → TreeRef → Bool
same_ref Empty Empty = true
same_ref (Of a) (Of b) = a.0 == b.0
same_ref a b = false

abbrev pub same_build : Option TreeRef → Option TreeRef → Bool
same_build None None = true
same_build (Some a) (Some b) = same_ref a b
same_build a b = false

abbrev pub same_input : InputRecipe → InputRecipe → Bool
same_input (Tree a) (Tree b) = same_ref a b
same_input (Files a) (Files b) = pointwise ◌==◌ a b
same_input a b = false

abbrev pub same_named : List ℕ × InputRecipe → List ℕ × InputRecipe → Bool
same_named a b = pointwise ◌==◌ a.0 b.0 && same_input a.1 b.1

-- the texts of a stage tell its kind, so they are compared in its place
abbrev pub same_recipe : Origin → Origin → Bool
same_recipe a b =
    pointwise ◌==◌ (type_text a.kind) (type_text b.kind) && pointwise ◌==◌ a.options_text b.options_text
    && same_build a.build b.build && same_ref a.base b.base && pointwise same_named a.inputs b.inputs

-- ---- what a recipe refers to

-- the tree of a recipe among the first ones of a table
abbrev pub IsRefBelow : ℕ → TreeRef → Type 0
IsRefBelow keys Empty = Unit {0}
IsRefBelow keys (Of key) = key.0 < keys

abbrev pub IsBuildBelow : ℕ → Option TreeRef → Type 0
IsBuildBelow keys None = Unit {0}
IsBuildBelow keys (Some ref) = IsRefBelow keys ref

abbrev pub IsInputBelow : ℕ → ℕ → InputRecipe → Type 0
IsInputBelow keys blobs (Tree ref) = IsRefBelow keys ref
IsInputBelow keys blobs (Files numbers) = All (λ number. number < blobs) numbers

-- it refers to so many recipes and blobs
pub record IsBelow (keys blobs : ℕ) (recipe : Origin) : Type 0 where
  pub build : IsBuildBelow keys recipe.build
  pub base : IsRefBelow keys recipe.base
  pub inputs : All (λ input. IsInputBelow keys blobs input.1) recipe.inputs
