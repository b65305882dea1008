-- What later crates rest on: what interning keeps, and what chains mean.
use Rattle.std.specs.Prelude.{◌≡◌, ◌↔◌, List, ◌++◌}
use Rattle.osb_tree.specs.declared.numbers.Key.{Key}
use Rattle.osb_recipe.specs.Works.{tree_of}
use Rattle.osb_recipe.specs.Recipes.{Origin, same_recipe}
use Rattle.osb_recipe.specs.Interning.{place_in, interned}
use Rattle.osb_recipe.specs.Tables.{TableData, IsTable, IsReadRecipe, Extends, IsChain, last_of}
use Rattle.osb_recipe.specs.Meanings.{meanings, tree_at, meant}

-- what is interned later changes no meaning
abbrev pub MeaningsStay : Type 0
MeaningsStay = (table later : TableData) (chain : List Key) → IsTable table → IsTable later → Extends table later → IsChain table chain → meant later chain ≡ meant table chain

-- the tree of a chain is the meaning of its last key
abbrev pub LastKeyIsTheFold : Type 0
LastKeyIsTheFold = (table : TableData) (chain : List Key) → IsTable table → IsChain table chain → tree_of (meant table chain) ≡ tree_at (meanings table) (last_of chain)

-- two recipes that are interned one after the other, with others between, have equal keys exactly where they are equal
abbrev pub EqualKeys : Type 0
EqualKeys =
    (table : TableData) (more : List Origin) (first second : Origin) → IsTable table → IsReadRecipe first → IsReadRecipe second
    → (place_in same_recipe table.recipes first ≡ place_in same_recipe (interned same_recipe table.recipes first ++ more) second) ↔ (first ≡ second)
