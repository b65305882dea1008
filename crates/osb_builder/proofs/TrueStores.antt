-- True stores open truly over a plan whose table begins with theirs, and what a run leaves is a true store.
use Rattle.std.proofs.Common.{◌≡◌, ◌<◌, ◌≤◌, [], length, All, Some, sym, ap, ◌∙◌, arith}
use Rattle.std.proofs.lemmas.List.Elements.{All-weaker}
use Rattle.osb_tree.specs.Trees.{Listing}
use Rattle.osb_tree.specs.Chunks.{pairs_of, AreOfATree}
use Rattle.osb_tree.specs.declared.numbers.Key.{Key}
use Rattle.osb_tree.proofs.ChunkLaws.{chunks_are_the_listing}
use Rattle.osb_recipe.specs.Tables.{TableData, IsTable, Extends}
use Rattle.osb_recipe.specs.Meanings.{meaning}
use Rattle.osb_recipe.specs.declared.plans.Plan.{Plan}
use Rattle.osb_recipe.specs.declared.references.TreeRef.TheVariants.{Of}
use Rattle.osb_recipe.proofs.Chains.{tree_at-stays}
use Rattle.osb_cache.specs.declared.answers.Stored.{Stored}
use Rattle.osb_state.specs.Truth.{AreMeant, IsTrueOpening}
use Rattle.osb_machine.specs.declared.shares.Finished.{Finished}
use Rattle.osb_store.specs.Rules.{IsStore}
use Rattle.osb_store.specs.declared.stores.Store.{Store}
use Rattle.osb_store.proofs.Cuts.{chunks_of-pairs_of}
use Rattle.osb_plan.proofs.Extending.{no_fewer_recipes}
use Rattle.osb_builder.specs.Stores.{IsTrueEntry, IsTrueStore, store_after}
use Rattle.osb_builder.proofs.StoreEntries.{are_known, are_trees, are_few}

-- ---- the meaning of a key stays

meaning_stays : (table later : TableData) (key : Key) → IsTable table → Extends table later → key.0 < length table.recipes → meaning later key ≡ meaning table key
meaning_stays table later key is extends within = tree_at-stays table later (Of key) is extends within

-- ---- before a run

module _ (store : Store) (plan : Plan) (table : IsTable store.table) (extends : Extends store.table plan.table) (is : IsStore store) where
  pub known_later : All (λ stored. stored.key.0 < length plan.table.recipes) store.entries
  known_later =
      All-weaker (λ (stored : Stored Listing). stored.key.0 < length store.table.recipes) (λ (stored : Stored Listing). stored.key.0 < length plan.table.recipes)
      (λ stored known. omega (arith, known, no_fewer_recipes store.table plan.table extends)) store.entries (are_known (length store.table.recipes) [] store.entries is.entries)

  entry_meant : (stored : Stored Listing) → stored.key.0 < length store.table.recipes → AreOfATree stored.chunks → All (λ chunk. length chunk ≤ 256) stored.chunks → IsTrueEntry store stored → AreMeant plan stored.key.0 stored.chunks
  entry_meant stored known tree few means = record {
    tree = pairs_of stored.chunks;
    means = meaning_stays store.table plan.table stored.key table extends known ∙ means;
    all = sym (chunks_of-pairs_of stored.chunks tree.cut few);
  }

  pub opens_truly : IsTrueStore store → IsTrueOpening plan store.entries
  opens_truly true_is =
      let keys = length store.table.recipes in
      λ k d within.
      entry_meant _ (are_known keys [] store.entries is.entries k d within) (are_trees keys [] store.entries is.entries k d within)
      (are_few keys [] store.entries is.entries k d within) (true_is k d within)

-- ---- after it

entry_true : (plan : Plan) (finished : Finished) (stored : Stored Listing) → AreMeant plan stored.key.0 stored.chunks → IsTrueEntry (store_after plan finished) stored
entry_true plan finished stored meant = meant.means ∙ ap Some (sym (ap pairs_of meant.all ∙ chunks_are_the_listing meant.tree))

pub leaves_truly : (plan : Plan) (finished : Finished) → IsTrueOpening plan finished.entries → IsTrueStore (store_after plan finished)
leaves_truly plan finished true_opening =
    All-weaker (λ (stored : Stored Listing). AreMeant plan stored.key.0 stored.chunks) (IsTrueEntry (store_after plan finished)) (entry_true plan finished) finished.entries true_opening
