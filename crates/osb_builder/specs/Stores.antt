-- Stores: the true ones, and which one is opened.
use Rattle.std.specs.Prelude.{◌≡◌, ℕ, List, [], Option, Some, None, Result, Ok, Err}
use Rattle.std.specs.List.{All}
use Rattle.osb_tree.specs.Trees.{Listing}
use Rattle.osb_tree.specs.Chunks.{pairs_of}
use Rattle.osb_recipe.specs.Meanings.{meaning}
use Rattle.osb_recipe.specs.declared.plans.Plan.{Plan}
use Rattle.osb_cache.specs.declared.answers.Stored.{Stored}
use Rattle.osb_machine.specs.declared.shares.Finished.{Finished}
use Rattle.osb_store.specs.Texts.{store_text}
use Rattle.osb_store.specs.Rules.{IsStore}
use Rattle.osb_store.specs.Refusals.{IsRefused}
use Rattle.osb_store.specs.declared.stores.Store.{Store}
use Rattle.osb_store.specs.declared.refusals.StoreRefusal.{StoreRefusal}

-- a store is true where each entry is the tree that its recipe means
abbrev pub IsTrueEntry : Store → Stored Listing → Type 0
IsTrueEntry store entry = meaning store.table entry.key ≡ Some (pairs_of entry.chunks)

abbrev pub IsTrueStore : Store → Type 0
IsTrueStore store = All (IsTrueEntry store) store.entries

abbrev pub empty_store : Store
empty_store = record { table = record { recipes = []; blobs = [] }; entries = [] }

-- bytes are a store, or are refused; where there are none the store is empty
abbrev pub Opens : Option (List ℕ) → Result Store StoreRefusal → Type 0
Opens None opened = opened ≡ Ok empty_store
Opens (Some bytes) (Ok store) = IsStore store × (bytes ≡ store_text store)
Opens (Some bytes) (Err refusal) = IsRefused refusal bytes

-- the store after a run: the table of its plan, with the entries that were left
abbrev pub store_after : Plan → Finished → Store
store_after plan finished = record { table = plan.table; entries = finished.entries }
