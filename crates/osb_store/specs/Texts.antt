-- The bytes of a store. No spelling is left to choice, so a store has one text.
use Rattle.std.specs.Prelude.{ℕ, List, [], ◌∷◌, ◌++◌, codes, length, Option, Some, None}
use Rattle.std.specs.List.{flat_map}
use Rattle.sha2.specs.Sha256.{sha256}
use Rattle.osb_tree.specs.Chunks.{pairs_of}
use Rattle.osb_tree.specs.Paths.{Names, path_text}
use Rattle.osb_tree.specs.Trees.{Listing}
use Rattle.osb_tree.specs.declared.nodes.Node.{Node}
use Rattle.osb_tree.specs.declared.nodes.Node.TheVariants.{Dir, File, Link}
use Rattle.osb_recipe.specs.Kinds.{type_text}
use Rattle.osb_recipe.specs.Recipes.{Origin}
use Rattle.osb_recipe.specs.declared.references.TreeRef.{TreeRef}
use Rattle.osb_recipe.specs.declared.references.TreeRef.TheVariants.{Empty, Of}
use Rattle.osb_recipe.specs.declared.references.InputRecipe.{InputRecipe}
use Rattle.osb_recipe.specs.declared.references.InputRecipe.TheVariants.{Tree, Files}
use Rattle.osb_cache.specs.declared.answers.Stored.{Stored}
use Rattle.osb_store.specs.declared.stores.Store.{Store}
use Rattle.osb_store.specs.Fields.{number, small_number, field}

-- ---- recipes

-- 1 for the empty tree, 2 and the key for that of a recipe
abbrev pub ref_text : TreeRef → List ℕ
ref_text Empty = 1 ∷ []
ref_text (Of key) = 2 ∷ number key.0

-- 0 where there is none
abbrev pub build_text : Option TreeRef → List ℕ
build_text None = 0 ∷ []
build_text (Some ref) = ref_text ref

abbrev pub content_text : InputRecipe → List ℕ
content_text (Tree ref) = 3 ∷ ref_text ref
content_text (Files numbers) = 4 ∷ (number (length numbers) ++ flat_map number numbers)

abbrev pub input_text : List ℕ × InputRecipe → List ℕ
input_text input = field input.0 ++ content_text input.1

-- the stage's type, Python's text of its options, the tree that it runs in, the one that it changes, and its inputs
abbrev pub recipe_text : Origin → List ℕ
recipe_text recipe =
    field (type_text recipe.kind) ++ (field recipe.options_text ++ (build_text recipe.build ++ (ref_text recipe.base ++ (number (length recipe.inputs) ++ flat_map input_text recipe.inputs))))

-- ---- entries

-- owners, the path's text, and what the node holds
abbrev pub owned_text : ℕ → ℕ → Names → List ℕ → List ℕ
owned_text uid gid path content = small_number uid ++ (small_number gid ++ (field (path_text path) ++ field content))

-- 1 for a directory, 2 for a file, 3 for a link, and the mode, which is 511 for a link
abbrev pub node_text : Names × Node → List ℕ
node_text (path, Dir mode uid gid) = 1 ∷ (small_number mode ++ owned_text uid gid path [])
node_text (path, File mode uid gid bytes) = 2 ∷ (small_number mode ++ owned_text uid gid path bytes)
node_text (path, Link uid gid target) = 3 ∷ (small_number 511 ++ owned_text uid gid path target)

-- the listing of a tree behind its recipe's key
abbrev pub nodes_text : Listing → List ℕ
nodes_text listing = number (length listing) ++ flat_map node_text listing

abbrev pub entry_text : Stored Listing → List ℕ
entry_text entry = number entry.key.0 ++ nodes_text (pairs_of entry.chunks)

-- ---- the whole

abbrev pub list_text : {X : Type 0} → (X → List ℕ) → List X → List ℕ
list_text text items = number (length items) ++ flat_map text items

-- the blobs, the recipes, and the entries from the one used first to the one used last
unfoldable pub body_text : Store → List ℕ
body_text store = list_text field store.table.blobs ++ (list_text recipe_text store.table.recipes ++ list_text entry_text store.entries)

abbrev pub magic : List ℕ
magic = codes "OSBCACH1"

-- a body behind the magic and its length
unfoldable pub headed : List ℕ → List ℕ
headed body = magic ++ field body

-- and the SHA-256 (FIPS 180-4) of all that at the end
unfoldable pub sealed : List ℕ → List ℕ
sealed body = headed body ++ sha256 (headed body)

abbrev pub store_text : Store → List ℕ
store_text store = sealed (body_text store)
