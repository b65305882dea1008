-- What the tests of an entry tell.
use Rattle.std.proofs.Common.{◌≡◌, ℕ, ◌+◌, ◌<◌, ◌≤◌, Bool, true, false, not, List, [], ◌∷◌, ◌++◌, length, take, take_all, get_or, All, Option, Some, None, sum_by, refl, sym, ap, subst, ◌∙◌, append_assoc, arith}
use Rattle.std.specs.BTreeSet.{BTreeSet, Updates}
use Rattle.std.specs.Cmp.{unsigned_tied}
use Rattle.std.specs.Ordering.{nat_cmp, is_eq}
use Rattle.std.specs.Prelude.{◌||◌, cond, option_and_then, IfSome, nat_lt, ◌==◌, ◌^◌, MatchOption, is_some}
use Rattle.std.specs.Bool.{Decides}
use Rattle.std.specs.List.{list_all, list_any}
use Rattle.std.proofs.lemmas.Bool.{cond-false, and_parts, and_from, not-true, not-false, not_from_false, eq-eqb, eqb-true, false_from_ne_true, true≢false}
use Rattle.std.proofs.lemmas.Bool.Decides.{Decides-and, Decides-not, Decides-ltb, Decides-like, same_from_decides}
use Rattle.std.proofs.lemmas.List.{append-nil, length_push}
use Rattle.std.proofs.lemmas.List.Folds.{list_any-append, list_any_at, list_any_none}
use Rattle.std.proofs.lemmas.List.Sums.{sum_by_push}
use Rattle.osb_tree.specs.Chunks.{pairs_of, is_cut, AreOfATree, BeginsATree, IsMisfit}
use Rattle.osb_tree.specs.Nodes.{InRange, IsOwner, IsTarget}
use Rattle.osb_tree.specs.Paths.{Names, IsPath, is_name, path_text}
use Rattle.osb_tree.specs.Readings.{goes_on, Fits, IsRead}
use Rattle.osb_tree.specs.Trees.{Listing, weight}
use Rattle.osb_tree.specs.declared.nodes.Node.{Node}
use Rattle.osb_tree.specs.declared.nodes.Node.TheVariants.{Dir, File, Link}
use Rattle.osb_tree.proofs.ChunkLaws.{misfit_is_one}
use Rattle.osb_tree.proofs.ChunkReadings.{nothing_read, of_a_tree}
use Rattle.osb_tree.proofs.Fronts.{every_key-back}
use Rattle.osb_tree.proofs.PairReadings.{front_begins, begins-tree, tree-begins, more_begins, more_read, fits_from_begins}
use Rattle.osb_tree.specs.declared.numbers.Key.{Key}
use Rattle.osb_cache.specs.declared.answers.Stored.{Stored}
use Rattle.osb_store.specs.Entries.{is_path, are_owners, is_target, is_in_range, may_follow, reads_on, is_of_a_tree, is_well_entry, is_entry, AreKeysOf}
use Rattle.osb_store.specs.Reading.{key_of}
use Rattle.osb_store.specs.Rules.{HasTexts, MayBeEntry, entry_size}

-- ---- one pair

at_most : (most n : ℕ) → Decides (not (nat_lt most n)) (n ≤ most)
at_most most n = Decides-like _ (λ above. omega (arith, above)) (λ le below. omega (arith, le, below)) (Decides-not (nat_lt most n) (Decides-ltb most n))

path_test : (names : Names) → Decides (is_path names) (IsPath names)
path_test names = Decides-like _ (λ p. record { named = p.0; short = p.1 }) (λ p. (p.named, p.short)) (Decides-and (list_all is_name names) _ (λ e. e, λ e. e) (at_most 4096 (length (path_text names))))

owners_test : (uid gid : ℕ) → Decides (are_owners uid gid) (IsOwner uid × IsOwner gid)
owners_test uid gid = Decides-and _ _ (at_most 4294967294 uid) (at_most 4294967294 gid)

target_test : (target : List ℕ) → Decides (is_target target) (IsTarget target)
target_test target =
    Decides-like _ (λ t. record { some = t.0; short = t.1.0; no_nul = t.1.1 }) (λ t. (t.some, (t.short, t.no_nul)))
    (Decides-and _ _ (Decides-ltb 0 (length target)) (Decides-and _ _ (at_most 4095 (length target)) (λ e. e, λ e. e)))

range_test : (node : Node) → Decides (is_in_range node) (InRange node)
range_test (Dir mode uid gid) = Decides-like _ (λ r. (r.0, r.1.0, r.1.1)) (λ r. (r.0, (r.1, r.2))) (Decides-and _ _ (at_most 4095 mode) (owners_test uid gid))
range_test (File mode uid gid bytes) = Decides-like _ (λ r. (r.0, r.1.0, r.1.1)) (λ r. (r.0, (r.1, r.2))) (Decides-and _ _ (at_most 4095 mode) (owners_test uid gid))
range_test (Link uid gid target) = Decides-like _ (λ r. (r.0.0, r.0.1, r.1)) (λ r. ((r.0, r.1), r.2)) (Decides-and _ _ (owners_test uid gid) (target_test target))

follow_test : (last : Option (Names × Node)) (count size : ℕ) (pair : Names × Node) → Decides (may_follow last count size pair) (IsPath pair.0 × Fits last count size pair)
follow_test last count size pair =
    Decides-like _
    (λ f. (f.0.0, record { node = f.0.1; place = f.1.0; few = f.1.1.0; small = f.1.1.1 }))
    (λ f. ((f.0, f.1.node), (f.1.place, (f.1.few, f.1.small))))
    (Decides-and _ _ (Decides-and _ _ (path_test pair.0) (range_test pair.1))
    (Decides-and (goes_on last pair) _ (λ e. e, λ e. e) (Decides-and _ _ (Decides-ltb count 262144) (at_most 268435456 (size + weight pair)))))

-- ---- the chunks of a tree

path_of_last : (read : Listing) (pair : Names × Node) → BeginsATree (read ++ pair ∷ []) → IsPath pair.0
path_of_last read pair b =
    (every_key-back IsPath read (pair ∷ []) (begins-tree (read ++ pair ∷ []) (omega (arith, length_push read pair)) b).paths).0

reads_test : (read : Listing) (last : Option (Names × Node)) (count size : ℕ) (pairs : Listing) → IsRead read last count size → BeginsATree read
    → Decides (reads_on last count size pairs) (BeginsATree (read ++ pairs))
reads_test read last count size [] r b = (λ e. subst BeginsATree (sym (append-nil read)) b, λ e. refl)
reads_test read last count size (pair ∷ pairs) r b =
    let f = follow_test last count size pair in (
      λ e.
          let parts = and_parts (may_follow last count size pair) (reads_on (Some pair) (count + 1) (size + weight pair) pairs) e in
          let fits = f.0 parts.0 in
          let later = reads_test (read ++ pair ∷ []) (Some pair) (count + 1) (size + weight pair) pairs (more_read read last count size pair r) (more_begins read last count size pair b r fits.0 fits.1) in
          subst BeginsATree (append_assoc read (pair ∷ []) pairs) (later.0 parts.1),
      λ whole.
          let regrouped : BeginsATree ((read ++ pair ∷ []) ++ pairs) = subst BeginsATree (sym (append_assoc read (pair ∷ []) pairs)) whole in
          let here = front_begins (read ++ pair ∷ []) pairs regrouped in
          let later = reads_test (read ++ pair ∷ []) (Some pair) (count + 1) (size + weight pair) pairs (more_read read last count size pair r) here in
          and_from (may_follow last count size pair) (reads_on (Some pair) (count + 1) (size + weight pair) pairs)
          (f.1 (path_of_last read pair here, fits_from_begins read last count size pair r here)) (later.1 regrouped),
    )

pub tree_test : (chunks : List Listing) → Decides (is_of_a_tree chunks) (AreOfATree chunks)
unfolding is_of_a_tree
tree_test chunks =
    let walk = reads_test [] None 0 0 (pairs_of chunks) nothing_read.0 nothing_read.1 in
    let whole : take (length chunks) chunks ≡ chunks = take_all (length chunks) chunks (omega arith) in (
      λ e.
          let parts = and_parts (is_cut chunks) (reads_on None 0 0 (pairs_of chunks)) e in
          of_a_tree chunks (length chunks) _ _ _ (omega arith) (record { last_is = refl; count_is = refl; size_is = refl })
          (subst (λ c. BeginsATree (pairs_of c)) (sym whole) (walk.0 parts.1)) parts.0,
      λ t. and_from (is_cut chunks) (reads_on None 0 0 (pairs_of chunks)) t.cut (walk.1 (tree-begins (pairs_of chunks) t.tree t.limits)),
    )

checked_test : (chunks : List Listing) (found : Option ℕ) (none : Bool) → MatchOption found (AreOfATree chunks) (IsMisfit chunks) → is_some found ≡ not none → Decides none (AreOfATree chunks)
checked_test chunks None none t e = (λ _. t, λ _. not-false none (sym e))
checked_test chunks (Some place) none m e = (λ y. absurd (true≢false (sym y ∙ not-true none (sym e))), λ t. absurd ((misfit_is_one chunks place m).0 t))

pub checked_is : (seen chunks : List Listing) (found : Option ℕ) (none : Bool) → seen ≡ chunks → MatchOption found (AreOfATree seen) (IsMisfit seen) → is_some found ≡ not none → none ≡ is_of_a_tree chunks
checked_is seen chunks found none same m e =
    same_from_decides none (is_of_a_tree seen) (checked_test seen found none m e) (tree_test seen) ∙ ap is_of_a_tree same

-- ---- entries

pub record IsWell (keys sum : ℕ) (entry : Stored Listing) : Type 0 where
  pub known : entry.key.0 < keys
  pub tree : AreOfATree entry.chunks
  pub small : sum + entry_size entry ≤ 2 ^ 62

pub well_test : (keys sum : ℕ) (entry : Stored Listing) → Decides (is_well_entry keys sum entry) (IsWell keys sum entry)
well_test keys sum entry =
    Decides-like _ (λ w. record { known = w.0; tree = w.1.0; small = w.1.1 }) (λ w. (w.known, (w.tree, w.small)))
    (Decides-and _ _ (Decides-ltb entry.key.0 keys) (Decides-and _ _ (tree_test entry.chunks) (at_most (2 ^ 62) (sum + entry_size entry))))

new_test : (before : List (Stored Listing)) (entry : Stored Listing) → Decides (not (list_any (λ held. held.key.0 == entry.key.0) before)) (All (λ held. held.key ≡ entry.key → ⊥) before)
new_test before entry = (
  λ e k d l same. true≢false (sym (list_any_at (λ held. held.key.0 == entry.key.0) before k d l (eq-eqb (get_or before k d).key.0 entry.key.0 (ap (λ (key : Key). key.0) same))) ∙ not-true _ e),
  λ new. not_from_false _ (list_any_none (λ held. held.key.0 == entry.key.0) before
      (λ k d l. false_from_ne_true _ (λ y. new k d l (ap key_of (eqb-true (get_or before k d).key.0 entry.key.0 y))))),
)

pub entry_may : (keys : ℕ) (before : List (Stored Listing)) (entry : Stored Listing) → is_entry keys before entry ≡ true → All (λ chunk. length chunk ≤ 256) entry.chunks → All HasTexts (pairs_of entry.chunks) → MayBeEntry keys before entry
entry_may keys before entry e few texts =
    let parts = and_parts (is_well_entry keys (sum_by entry_size before) entry) _ e in
    let well = (well_test keys (sum_by entry_size before) entry).0 parts.0 in
    record { known = well.known; new = (new_test before entry).0 parts.1; tree = well.tree; few = few; texts = texts; small = omega (arith, well.small, sum_by_push entry_size before entry) }

pub entry_passes : (keys : ℕ) (before : List (Stored Listing)) (entry : Stored Listing) → MayBeEntry keys before entry → is_entry keys before entry ≡ true
entry_passes keys before entry may =
    and_from (is_well_entry keys (sum_by entry_size before) entry) _
    ((well_test keys (sum_by entry_size before) entry).1 (record { known = may.known; tree = may.tree; small = omega (arith, may.small, sum_by_push entry_size before entry) }))
    ((new_test before entry).1 may.new)

-- what is kept of the entries before, with an entry that passes
pub record IsMore (before : List (Stored Listing)) (entry : Stored Listing) : Type 0 where
  pub tree : is_of_a_tree entry.chunks ≡ true
  pub sum : sum_by entry_size (before ++ entry ∷ []) ≡ sum_by entry_size before + entry_size entry
  pub small : sum_by entry_size (before ++ entry ∷ []) ≤ 2 ^ 62

pub entry_more : (keys : ℕ) (before : List (Stored Listing)) (entry : Stored Listing) → is_entry keys before entry ≡ true → IsMore before entry
entry_more keys before entry e =
    let parts = and_parts (is_well_entry keys (sum_by entry_size before) entry) _ e in
    let well = (well_test keys (sum_by entry_size before) entry).0 parts.0 in
    record { tree = (tree_test entry.chunks).1 well.tree; sum = sum_by_push entry_size before entry; small = omega (arith, well.small, sum_by_push entry_size before entry) }

-- what is refused for its chunks passes no test
pub entry_none : (keys : ℕ) (before : List (Stored Listing)) (piece : Option (Stored Listing × List ℕ)) → IfSome piece (λ y. AreOfATree y.0.chunks → ⊥)
    → option_and_then (λ x. cond (is_entry keys before x.0) (Some x) None) piece ≡ None
entry_none keys before None h = refl
entry_none keys before (Some x) h =
    cond-false _ _ _ (false_from_ne_true (is_entry keys before x.0) (λ e. h ((well_test keys (sum_by entry_size before) x.0).0 (and_parts (is_well_entry keys (sum_by entry_size before) x.0) _ e).0).tree))

-- ---- the keys before

pub no_keys : (seen : BTreeSet ℕ) → seen.keys ≡ [] → AreKeysOf seen []
no_keys seen e key = ap (list_any (λ held. is_eq (nat_cmp key held))) e

cond_last : (a b : Bool) → cond a true b ≡ (b || (a || false))
cond_last true true = refl
cond_last true false = refl
cond_last false true = refl
cond_last false false = refl

pub keys_more : (seen more : BTreeSet ℕ) (before : List (Stored Listing)) (entry : Stored Listing) → Updates nat_cmp seen more entry.key.0 true → AreKeysOf seen before → AreKeysOf more (before ++ entry ∷ [])
keys_more seen more before entry u held key =
    u.0 key ∙ (λ i. cond (unsigned_tied entry.key.0 key i) true (held key i))
    ∙ cond_last (entry.key.0 == key) (list_any (λ held. held.key.0 == key) before)
    ∙ sym (list_any-append (λ held. held.key.0 == key) before (entry ∷ []))
