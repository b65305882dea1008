-- For private clauses: lists of items, each of which may stand behind those before it, and the place of the first item
-- that is none.
use Rattle.std.specs.Prelude.{◌≡◌, ℕ, zero, suc, ◌+◌, ◌/◌, ◌==◌, Bool, not, ◌&&◌, List, [], ◌∷◌, ◌++◌, length, nat_lt, Option, Some, None, option_and_then, Result, Ok, Err, if◌then◌else◌}
use Rattle.std.specs.List.{list_any}
use Rattle.osb_tree.specs.Trees.{Listing}
use Rattle.osb_recipe.specs.Recipes.{Origin}
use Rattle.osb_cache.specs.declared.answers.Stored.{Stored}
use Rattle.osb_store.specs.Places.{same_text}
use Rattle.osb_store.specs.Reading.{At, number_at, field_at}
use Rattle.osb_store.specs.Recipes.{recipe_at, is_recipe}
use Rattle.osb_store.specs.Entries.{entry_at, is_entry}
use Rattle.osb_store.specs.declared.refusals.StoreRefusal.{StoreRefusal}
use Rattle.osb_store.specs.declared.refusals.StoreRefusal.TheVariants.{Shape, NoMemory}
use Rattle.osb_store.specs.declared.stores.Store.{Store}
use Rattle.osb_store.specs.declared.steps.Stop.{Stop}
use Rattle.osb_store.specs.declared.steps.Stop.TheVariants.{Broken, Memory}

-- ---- a list

-- what is read, where it may stand behind what is before it
abbrev pub checked_at : {X : Type 0} → At X → (List X → X → Bool) → List X → At X
checked_at read test before bytes = option_and_then (λ x. if test before x.0 then Some x else None) (read bytes)

-- goes on, or stops at a place
abbrev pub then_from : {X Y : Type 0} → ℕ → Option X → (X → Result Y ℕ) → Result Y ℕ
then_from place None next = Err place
then_from place (Some x) next = next x

abbrev pub items_at : {X : Type 0} → At X → (List X → X → Bool) → ℕ → ℕ → List X → List ℕ → Result (List X × List ℕ) ℕ
items_at read test zero place before bytes = Ok (before, bytes)
items_at read test (suc count) place before bytes = then_from place (checked_at read test before bytes) (λ x. items_at read test count (suc place) (before ++ x.0 ∷ []) x.1)

-- a count with room for what it counts
unfoldable pub count_at : At ℕ
count_at bytes = option_and_then (λ n. if nat_lt (length n.1 / 8) n.0 then None else Some n) (number_at bytes)

abbrev pub list_from : {X : Type 0} → At X → (List X → X → Bool) → ℕ → List ℕ → Result (List X × List ℕ) ℕ
list_from read test place bytes = then_from place (count_at bytes) (λ n. items_at read test n.0 (suc place) [] n.1)

-- ---- a body

abbrev pub is_blob : List (List ℕ) → List ℕ → Bool
is_blob before blob = not (nat_lt 16777216 (length blob)) && not (list_any (same_text blob) before)

unfoldable pub blobs_from : List ℕ → Result (List (List ℕ) × List ℕ) ℕ
blobs_from bytes = list_from field_at is_blob 0 bytes

unfoldable pub recipes_from : List (List ℕ) → List ℕ → Result (List Origin × List ℕ) ℕ
recipes_from blobs bytes = list_from recipe_at (is_recipe blobs) (1 + length blobs) bytes

unfoldable pub entries_from : ℕ → ℕ → List ℕ → Result (List (Stored Listing) × List ℕ) ℕ
entries_from blobs recipes bytes = list_from entry_at (is_entry recipes) (2 + blobs + recipes) bytes

abbrev pub then_ok : {X Y : Type 0} → Result X ℕ → (X → Result Y ℕ) → Result Y ℕ
then_ok (Ok x) next = next x
then_ok (Err place) next = Err place

abbrev pub store_of : List (List ℕ) → List Origin → List (Stored Listing) → Store
store_of blobs recipes entries = record { table = record { recipes = recipes; blobs = blobs }; entries = entries }

-- the three lists, and nothing behind them
abbrev pub whole_of : List (List ℕ) → List Origin → List (Stored Listing) × List ℕ → Result Store ℕ
whole_of blobs recipes entries = if length entries.1 == 0 then Ok (store_of blobs recipes entries.0) else Err (3 + length blobs + length recipes + length entries.0)

unfoldable pub body_at : List ℕ → Result Store ℕ
body_at bytes =
    then_ok (blobs_from bytes) (λ blobs. then_ok (recipes_from blobs.0 blobs.1) (λ recipes. then_ok (entries_from (length blobs.0) (length recipes.0) recipes.1) (whole_of blobs.0 recipes.0)))

-- ---- what is answered

abbrev pub refused_at : ℕ → Stop → StoreRefusal
refused_at place Broken = Shape place
refused_at place Memory = NoMemory

-- it gives what is read by how it is seen, or stops at the same place; memory aside
abbrev pub GivesFrom : {X Y : Type 0} → (X → Y) → Result X StoreRefusal → Result Y ℕ → Type 0
GivesFrom seen (Ok x) told = told ≡ Ok (seen x)
GivesFrom seen (Err (Shape place)) told = told ≡ Err place
GivesFrom seen (Err NoMemory) told = Unit {0}
GivesFrom seen (Err refusal) told = ⊥
