-- What each item of a store may be, behind those before it.
use Rattle.std.specs.Prelude.{◌≡◌, ◌≢◌, ℕ, ◌^◌, ◌<◌, ◌≤◌, true, List, [], ◌∷◌, ◌++◌, length, map, sum_by}
use Rattle.std.specs.List.{All}
use Rattle.std.specs.List.Sorted.{IsStrictlySortedBy}
use Rattle.std.specs.Map.{keys_of}
use Rattle.std.specs.Cmp.Lexicographic.{slice_cmp}
use Rattle.std.specs.Ordering.{nat_cmp}
use Rattle.std.specs.Str.{is_utf8}
use Rattle.sha2.specs.Sha256.{sha256}
use Rattle.osb_tree.specs.Chunks.{pairs_of, AreOfATree}
use Rattle.osb_tree.specs.Paths.{Names, path_text}
use Rattle.osb_tree.specs.Trees.{Listing, tree_size}
use Rattle.osb_tree.specs.declared.nodes.Node.{Node}
use Rattle.osb_tree.specs.declared.nodes.Node.TheVariants.{Dir, File, Link}
use Rattle.osb_recipe.specs.FilesTrees.{blobs_at}
use Rattle.osb_recipe.specs.Recipes.{Origin, IsBelow}
use Rattle.osb_recipe.specs.Tables.{IsReadRecipe}
use Rattle.osb_recipe.specs.declared.references.InputRecipe.{InputRecipe}
use Rattle.osb_recipe.specs.declared.references.InputRecipe.TheVariants.{Tree, Files}
use Rattle.osb_cache.specs.declared.answers.Stored.{Stored}
use Rattle.osb_store.specs.declared.stores.Store.{Store}

-- each item may stand behind those before it
abbrev pub EachMay : {X : Type 0} → (List X → X → Type 0) → List X → List X → Type 0
EachMay May before [] = Unit {0}
EachMay May before (item ∷ items) = May before item × EachMay May (before ++ item ∷ []) items

abbrev pub IsNew : {X : Type 0} → List X → X → Type 0
IsNew before item = All (λ held. held ≢ item) before

-- ---- blobs

pub record MayBeBlob (before : List (List ℕ)) (blob : List ℕ) : Type 0 where
  pub small : length blob ≤ 16777216
  pub new : IsNew before blob

-- ---- recipes

-- the digests of an input's blobs rise
abbrev pub HasRisingDigests : List (List ℕ) → InputRecipe → Type 0
HasRisingDigests blobs (Tree ref) = Unit {0}
HasRisingDigests blobs (Files numbers) = IsStrictlySortedBy (slice_cmp nat_cmp) (map sha256 (blobs_at blobs numbers))

pub record MayBeInput (blobs : List (List ℕ)) (input : List ℕ × InputRecipe) : Type 0 where
  pub named : is_utf8 input.0 ≡ true
  pub rising : HasRisingDigests blobs input.1

-- it refers to recipes before it and to the blobs; its kind is what its type reads in the options that the text spells;
-- the names of its inputs rise
pub record MayBeRecipe (blobs : List (List ℕ)) (before : List Origin) (recipe : Origin) : Type 0 where
  pub below : IsBelow (length before) (length blobs) recipe
  pub read : IsReadRecipe recipe
  pub ordered : IsStrictlySortedBy (slice_cmp nat_cmp) (keys_of recipe.inputs)
  pub inputs : All (MayBeInput blobs) recipe.inputs
  pub new : IsNew before recipe

-- ---- entries

abbrev pub HasTextTarget : Node → Type 0
HasTextTarget (Dir mode uid gid) = Unit {0}
HasTextTarget (File mode uid gid bytes) = Unit {0}
HasTextTarget (Link uid gid target) = is_utf8 target ≡ true

-- paths and targets are UTF-8
pub record HasTexts (pair : Names × Node) : Type 0 where
  pub path : is_utf8 (path_text pair.0) ≡ true
  pub target : HasTextTarget pair.1

abbrev pub entry_size : Stored Listing → ℕ
entry_size entry = sum_by tree_size entry.chunks

-- the chunks of a tree, with no more than 256 pairs in each, of a recipe that has no entry before it; with those before it
-- it has at most 2^62 bytes
pub record MayBeEntry (keys : ℕ) (before : List (Stored Listing)) (entry : Stored Listing) : Type 0 where
  pub known : entry.key.0 < keys
  pub new : All (λ held. held.key ≢ entry.key) before
  pub tree : AreOfATree entry.chunks
  pub few : All (λ chunk. length chunk ≤ 256) entry.chunks
  pub texts : All HasTexts (pairs_of entry.chunks)
  pub small : sum_by entry_size (before ++ entry ∷ []) ≤ 2 ^ 62

-- ---- stores

pub record IsStore (store : Store) : Type 0 where
  pub blobs : EachMay MayBeBlob [] store.table.blobs
  pub recipes : EachMay (MayBeRecipe store.table.blobs) [] store.table.recipes
  pub entries : EachMay (MayBeEntry (length store.table.recipes)) [] store.entries
