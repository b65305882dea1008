-- What the entries of a store are together: a cache can be opened with them.
use Rattle.std.proofs.Common.{◌≡◌, ◌≢◌, ℕ, ◌^◌, ◌<◌, ◌≤◌, ◌==◌, Bool, true, false, cond, List, [], ◌∷◌, ◌++◌, length, sum_by, count_by, All, inl, inr, sym, ap, subst, arith, refl, append_assoc, append-nil}
use Rattle.std.proofs.lemmas.Bool.{cases_eq, ne_eqb}
use Rattle.std.proofs.lemmas.List.Elements.{All-nil, All-cons, All-head, All-tail}
use Rattle.std.proofs.lemmas.List.Sums.{sum_by-cons, sum_by_push}
use Rattle.osb_tree.specs.Chunks.{AreOfATree}
use Rattle.osb_tree.specs.Trees.{Listing, tree_size}
use Rattle.osb_cache.specs.Caches.{CanOpen}
use Rattle.osb_cache.specs.declared.answers.Stored.{Stored}
use Rattle.osb_store.specs.Rules.{EachMay, MayBeEntry, IsStore, entry_size}
use Rattle.osb_store.specs.declared.stores.Store.{Store}

-- ---- each entry

pub each_is : {X : Type 0} (May : List X → X → Type 0) (Is : X → Type 0) → ((before : List X) (item : X) → May before item → Is item) → (before items : List X) → EachMay May before items → All Is items
each_is May Is weaker before [] each = All-nil Is
each_is May Is weaker before (item ∷ items) each = All-cons Is item items (weaker before item each.0) (each_is May Is weaker (before ++ item ∷ []) items each.1)

module _ (keys : ℕ) where
  pub are_known : (before entries : List (Stored Listing)) → EachMay (MayBeEntry keys) before entries → All (λ stored. stored.key.0 < keys) entries
  are_known before entries each = each_is (MayBeEntry keys) (λ (stored : Stored Listing). stored.key.0 < keys) (λ front stored may. may.known) before entries each

  pub are_trees : (before entries : List (Stored Listing)) → EachMay (MayBeEntry keys) before entries → All (λ stored. AreOfATree stored.chunks) entries
  are_trees before entries each = each_is (MayBeEntry keys) (λ (stored : Stored Listing). AreOfATree stored.chunks) (λ front stored may. may.tree) before entries each

  pub are_few : (before entries : List (Stored Listing)) → EachMay (MayBeEntry keys) before entries → All (λ stored. All (λ chunk. length chunk ≤ 256) stored.chunks) entries
  are_few before entries each = each_is (MayBeEntry keys) (λ (stored : Stored Listing). All (λ (chunk : Listing). length chunk ≤ 256) stored.chunks) (λ front stored may. may.few) before entries each

-- ---- keys

has : ℕ → Stored Listing → ℕ
has key stored = cond (stored.key.0 == key) 1 0

has-le : (b : Bool) → cond {A = ℕ} b 1 0 ≤ 1
has-le true = omega arith
has-le false = omega arith

none_before : (key : ℕ) (before : List (Stored Listing)) → All (λ held. held.key.0 ≢ key) before → count_by (λ stored. stored.key.0 == key) before ≡ 0
none_before key [] new = refl
none_before key (held ∷ before) new =
    let Other : Stored Listing → Type 0 = λ stored. stored.key.0 ≢ key in
    let one : Stored Listing → ℕ = λ stored. cond (stored.key.0 == key) 1 0 in
    let here : one held ≡ 0 = ap (λ (b : Bool). cond {A = ℕ} b 1 0) (ne_eqb held.key.0 key (All-head Other held before new)) in
    omega (arith, sum_by-cons one held before, here, none_before key before (All-tail Other held before new))

-- an entry whose key none before it has
one_more : (key : ℕ) (before : List (Stored Listing)) (entry : Stored Listing) → All (λ held. held.key ≢ entry.key) before → count_by (λ stored. stored.key.0 == key) before ≤ 1 → count_by (λ stored. stored.key.0 == key) (before ++ entry ∷ []) ≤ 1
one_more key before entry new few =
    let one : ℕ → Stored Listing → ℕ = λ k stored. cond (stored.key.0 == k) 1 0 in
    let Few : ℕ → Type 0 = λ k. count_by (λ (stored : Stored Listing). stored.key.0 == k) (before ++ entry ∷ []) ≤ 1 in
    elim (cases_eq entry.key.0 key) [
      | inl same ↦ subst Few same
          (omega (arith, none_before entry.key.0 before (λ k d l e. new k d l (λ i. record { 0 = e i })), sum_by_push (one entry.key.0) before entry, has-le (entry.key.0 == entry.key.0)))
      | inr other ↦ omega (arith, few, sum_by_push (one key) before entry, ap (λ (b : Bool). cond {A = ℕ} b 1 0) (ne_eqb entry.key.0 key other))
    ]

module _ (keys : ℕ) where
  apart : (key : ℕ) (before entries : List (Stored Listing)) → EachMay (MayBeEntry keys) before entries → count_by (λ stored. stored.key.0 == key) before ≤ 1 → count_by (λ stored. stored.key.0 == key) (before ++ entries) ≤ 1
  apart key before [] each few = subst (λ (all : List (Stored Listing)). count_by (λ stored. stored.key.0 == key) all ≤ 1) (sym (append-nil before)) few
  apart key before (entry ∷ entries) each few =
      subst (λ (all : List (Stored Listing)). count_by (λ stored. stored.key.0 == key) all ≤ 1) (append_assoc before (entry ∷ []) entries)
      (apart key (before ++ entry ∷ []) entries each.1 (one_more key before entry each.0.new few))

  -- ---- sizes

  small : (before entries : List (Stored Listing)) → EachMay (MayBeEntry keys) before entries → sum_by entry_size before ≤ 2 ^ 62 → sum_by entry_size (before ++ entries) ≤ 2 ^ 62
  small before [] each few = subst (λ (all : List (Stored Listing)). sum_by entry_size all ≤ 2 ^ 62) (sym (append-nil before)) few
  small before (entry ∷ entries) each few =
      subst (λ (all : List (Stored Listing)). sum_by entry_size all ≤ 2 ^ 62) (append_assoc before (entry ∷ []) entries) (small (before ++ entry ∷ []) entries each.1 each.0.small)

-- ---- a whole store

pub can_open : (store : Store) (limit : ℕ) → IsStore store → limit ≤ 2 ^ 62 → CanOpen tree_size limit store.entries
can_open store limit is within = record {
  limited = within;
  apart = λ key. apart (length store.table.recipes) key [] store.entries is.entries (omega arith);
  small = small (length store.table.recipes) [] store.entries is.entries (omega arith);
}
