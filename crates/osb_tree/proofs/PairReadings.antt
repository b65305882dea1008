-- Pairs that are read one after another: which one the listing of a tree can have next.
use Rattle.std.proofs.Common.{◌≡◌, ℕ, ◌+◌, ◌-◌, ◌^◌, min, ◌==◌, ◌<◌, ◌≤◌, true, false, not, ◌||◌, List, [], ◌∷◌, ◌++◌, length, take, get_or, Some, None, Option, is_some, IsSome, IsTrue, Less, is_lt, sym, refl, ap, subst, ◌∙◌, ⊎_elim, append_assoc, arith, true≢false}
use Rattle.std.specs.Prelude.{option_and_then}
use Rattle.std.specs.Option.{option_map_or}
use Rattle.std.specs.List.{AllByRecursion}
use Rattle.std.specs.List.Sorted.{IsStrictlySortedBy}
use Rattle.std.specs.Map.{keys_of}
use Rattle.std.proofs.lemmas.Bool.{cond-true, and_parts, and_from, and_right, or_from, false_from_ne_true, eqb-true}
use Rattle.std.proofs.lemmas.List.{append-nil, length-append, length_push, take_more}
use Rattle.std.proofs.lemmas.List.Sums.{sum_by-append, sum_by_push}
use Rattle.std.proofs.lemmas.Option.{slice_get-get_or}
use Rattle.std.proofs.Math.Seq.{get_or-append_seam}
use Rattle.osb_tree.specs.Paths.{Names, root, IsPath, parent_of, is_beneath, path_cmp}
use Rattle.osb_tree.specs.Nodes.{is_directory, InRange}
use Rattle.osb_tree.specs.Trees.{Listing, IsTree, IsWithinLimits, node_at, is_directory_at, weight, tree_size, put_at, has_beneath, takes_over, directory_fault, parent_fault, is_too_large, empty_tree}
use Rattle.osb_tree.specs.Chunks.{BeginsATree}
use Rattle.osb_tree.specs.Readings.{last_of, is_open, goes_on, IsRead, Fits}
use Rattle.osb_tree.specs.declared.nodes.Node.{Node}
use Rattle.osb_tree.proofs.Fronts.{every_key-append, every_value-back, insert_entry-above, below_last, all_below_more}
use Rattle.osb_tree.proofs.ListingFronts.{IsTree-front, found_directory, found_head, not_below_root, not_both_below, below_back, directory_in_front, node_at-last, directory_from_is_open, is_open-from_directory}
use Rattle.osb_tree.proofs.NextPaths.{found-cons, less_is}
use Rattle.osb_tree.proofs.PathLaws.{is_at-path_cmp}
use Rattle.osb_tree.proofs.PathOrder.{path_cmp_total, path_cmp-from_is_beneath}
use Rattle.osb_tree.proofs.Puts.{IsTree-from_PutFits, is_directory_at-from, is_too_large-within, split_last}
use Rattle.osb_tree.proofs.TreeLaws.{empty_tree-is_tree, empty_tree-is_within_limits}

-- ---- the last pair

-- some pairs end with one
pub record Ends (pairs : Listing) : Type 0 where
  pub front : Listing
  pub last : Names × Node
  pub is : pairs ≡ front ++ last ∷ []
  pub last_is : last_of pairs ≡ Some last

pub last_of-push : (front : Listing) (last : Names × Node) → last_of (front ++ last ∷ []) ≡ Some last
last_of-push front last =
    let at : length (front ++ last ∷ []) - 1 ≡ length front = omega (arith, length_push front last) in
    rw at (slice_get-get_or (front ++ last ∷ []) (length front) last (omega (arith, length_push front last)) ∙ ap Some (get_or-append_seam front last [] last))

ends_from : (pair : Names × Node) (pairs : Listing) → (front : Listing) × ((last : Names × Node) × (pair ∷ pairs ≡ front ++ last ∷ []))
ends_from pair [] = ([], (pair, refl))
ends_from pair (next ∷ pairs) =
    let later = ends_from next pairs in
    (pair ∷ later.0, (later.1.0, ap (λ rest. pair ∷ rest) later.1.1))

pub ends : (pair : Names × Node) (pairs : Listing) → Ends (pair ∷ pairs)
ends pair pairs =
    let e = ends_from pair pairs in
    record { front = e.0; last = e.1.0; is = e.1.1; last_is = ap last_of e.1.1 ∙ last_of-push e.0 e.1.0 }

-- ---- what begins a tree

pub nothing_begins : BeginsATree []
nothing_begins = (empty_tree, (empty_tree-is_tree, empty_tree-is_within_limits))

pub front_begins : (xs ys : Listing) → BeginsATree (xs ++ ys) → BeginsATree xs
front_begins xs ys b =
    (ys ++ b.0, (subst IsTree (append_assoc xs ys b.0) b.1.0, subst IsWithinLimits (append_assoc xs ys b.0) b.1.1))

limits-front : (xs ys : Listing) → IsWithinLimits (xs ++ ys) → IsWithinLimits xs
limits-front xs ys l = record {
  few = omega (arith, l.few, length-append xs ys);
  small = omega (arith, l.small, sum_by-append weight xs ys);
}

pub begins-limits : (xs : Listing) → BeginsATree xs → IsWithinLimits xs
begins-limits xs b = limits-front xs b.0 b.1.1

pub begins-tree : (xs : Listing) → 0 < length xs → BeginsATree xs → IsTree xs
begins-tree xs some b = IsTree-front xs b.0 some b.1.0

pub tree-begins : (xs : Listing) → IsTree xs → IsWithinLimits xs → BeginsATree xs
tree-begins xs t l = ([], (subst IsTree (sym (append-nil xs)) t, subst IsWithinLimits (sym (append-nil xs)) l))

-- ---- a first pair

empty_is : (path : Names) → (length path == 0) ≡ true → path ≡ root
empty_is [] e = refl
empty_is (name ∷ path) e = absurd (omega (arith, eqb-true (length (name ∷ path)) 0 e))

found_alone : (node : Node) (path : Names) → IsSome (node_at ((root, node) ∷ []) path) → path ≡ root
found_alone node path found = ⊎_elim (λ e. e) (λ none. absurd (true≢false (sym none))) (found-cons (root, node) [] path found)

no_child_alone : (node : Node) (path : Names) (name : List ℕ) → IsSome (node_at ((root, node) ∷ []) (path ++ name ∷ [])) → IsTrue (is_directory_at ((root, node) ∷ []) path)
no_child_alone node path name found =
    absurd (omega (arith, length_push path name, ap length (found_alone node (path ++ name ∷ []) found)))

one_is_sorted : (path : Names) → IsStrictlySortedBy path_cmp (path ∷ [])
unfolding IsStrictlySortedBy
one_is_sorted path = (tt, tt)

root_alone : (node : Node) → IsPath root → InRange node → is_directory node ≡ true → IsTree ((root, node) ∷ [])
root_alone node p n d = record {
  ordered = one_is_sorted root;
  paths = (p, tt);
  nodes = (n, tt);
  rooted = d;
  parents = no_child_alone node;
}

first_pair : (pair : Names × Node) → IsPath pair.0 → InRange pair.1 → goes_on None pair ≡ true → IsTree (pair ∷ [])
first_pair pair p n g =
    let parts = and_parts (length pair.0 == 0) (is_directory pair.1) g in
    let at_root = empty_is pair.0 parts.0 in
    subst (λ path. IsTree ((path, pair.1) ∷ [])) (sym at_root) (root_alone pair.1 (subst IsPath at_root p) n parts.1)

-- ---- one more pair

nothing_beneath : (listing : Listing) (path : Names) → AllByRecursion (λ y. path_cmp y path ≡ Less) (keys_of listing) → has_beneath listing path ≡ false
nothing_beneath [] path h = refl
nothing_beneath (pair ∷ pairs) path h =
    or_from (is_beneath path pair.0) (has_beneath pairs path)
    (false_from_ne_true (is_beneath path pair.0) (λ y. not_both_below path pair.0 (path_cmp-from_is_beneath path pair.0 y) h.0))
    (nothing_beneath pairs path h.1)

no_fault : (listing : Listing) (parent : Names) → is_directory_at listing parent ≡ true → directory_fault (node_at listing parent) ≡ None
no_fault listing parent d = by (node_at listing parent) refl
  where
    by : (found : Option Node) → node_at listing parent ≡ found → directory_fault found ≡ None
    by None e = absurd (true≢false (sym d ∙ is_directory_at-from listing parent None e))
    by (Some node) e = cond-true _ _ _ (sym (is_directory_at-from listing parent (Some node) e) ∙ d)

not_root : (path last : Names) → path_cmp last path ≡ Less → (length path == 0) ≡ false
not_root [] last l = absurd (not_below_root last l)
not_root (name ∷ path) last l = false_from_ne_true (length (name ∷ path) == 0) (λ e. omega (arith, eqb-true (length (name ∷ path)) 0 e))

module _ (front : Listing) (last pair : Names × Node) (t : IsTree (front ++ last ∷ [])) (p : IsPath pair.0) (n : InRange pair.1) (g : goes_on (Some last) pair ≡ true) (few : length (front ++ last ∷ []) < 262144) (small : tree_size (front ++ last ∷ []) + weight pair ≤ 268435456) where
  behind_last : path_cmp last.0 pair.0 ≡ Less
  behind_last = less_is (path_cmp last.0 pair.0) (and_parts (is_lt (path_cmp last.0 pair.0)) (option_map_or (is_open last) (parent_of pair.0) false) g).0

  behind_all : AllByRecursion (λ y. path_cmp y pair.0 ≡ Less) (keys_of (front ++ last ∷ []))
  behind_all = every_key-append (λ y. path_cmp y pair.0 ≡ Less) front (last ∷ []) (all_below_more path_cmp_total front last.0 pair.0 (below_last path_cmp front last t.ordered) behind_last) (behind_last, tt)

  put_behind : put_at (front ++ last ∷ []) pair.0 pair.1 ≡ (front ++ last ∷ []) ++ pair ∷ []
  put_behind = insert_entry-above path_cmp_total (front ++ last ∷ []) pair.0 pair.1 behind_all

  parent_fits : parent_fault (front ++ last ∷ []) pair.0 ≡ None
  parent_fits = by (parent_of pair.0) (and_parts (is_lt (path_cmp last.0 pair.0)) (option_map_or (is_open last) (parent_of pair.0) false) g).1
    where
      by : (parent : Option Names) → option_map_or (is_open last) parent false ≡ true → option_and_then (λ parent. directory_fault (node_at (front ++ last ∷ []) parent)) parent ≡ None
      by None h = refl
      by (Some parent) h = no_fault (front ++ last ∷ []) parent (directory_from_is_open front last t parent h)

  place_fits : takes_over (front ++ last ∷ []) pair.0 pair.1 ≡ false
  place_fits = and_right (not (is_directory pair.1)) (length pair.0 == 0 || has_beneath (front ++ last ∷ []) pair.0) (or_from (length pair.0 == 0) (has_beneath (front ++ last ∷ []) pair.0) (not_root pair.0 last.0 behind_last) (nothing_beneath (front ++ last ∷ []) pair.0 behind_all))

  size_fits : is_too_large (put_at (front ++ last ∷ []) pair.0 pair.1) ≡ false
  size_fits =
      rw put_behind (is_too_large-within ((front ++ last ∷ []) ++ pair ∷ [])
      (omega (arith, few, length_push (front ++ last ∷ []) pair))
      (omega (arith, small, sum_by_push weight (front ++ last ∷ []) pair)))

  next_pair : IsTree ((front ++ last ∷ []) ++ pair ∷ [])
  next_pair = subst IsTree put_behind (IsTree-from_PutFits (front ++ last ∷ []) pair.0 pair.1 t p n (record { parent = parent_fits; place = place_fits; small = size_fits }))

more_tree : (read : Listing) (count size : ℕ) (pair : Names × Node) → BeginsATree read → count ≡ length read → size ≡ tree_size read → IsPath pair.0 → Fits (last_of read) count size pair → IsTree (read ++ pair ∷ [])
more_tree [] count size pair b c z p f = first_pair pair p f.node f.place
more_tree (first ∷ read) count size pair b c z p f =
    let e = ends first read in
    let few : length (first ∷ read) < 262144 = omega (arith, f.few, c) in
    let small : tree_size (first ∷ read) + weight pair ≤ 268435456 = omega (arith, f.small, z) in
    let t : IsTree (first ∷ read) = begins-tree (first ∷ read) (omega arith) b in
    let place : goes_on (Some e.last) pair ≡ true = subst (λ last. goes_on last pair ≡ true) e.last_is f.place in
    subst (λ pairs. IsTree (pairs ++ pair ∷ [])) (sym e.is)
    (next_pair e.front e.last pair (subst IsTree e.is t) p f.node place
    (subst (λ pairs. length pairs < 262144) e.is few)
    (subst (λ pairs. tree_size pairs + weight pair ≤ 268435456) e.is small))

-- what was read with one more pair
pub more_begins : (read : Listing) (last : Option (Names × Node)) (count size : ℕ) (pair : Names × Node) → BeginsATree read → IsRead read last count size → IsPath pair.0 → Fits last count size pair → BeginsATree (read ++ pair ∷ [])
more_begins read last count size pair b r p f =
    tree-begins (read ++ pair ∷ [])
    (more_tree read count size pair b r.count_is r.size_is p (subst (λ l. Fits l count size pair) r.last_is f))
    (record {
      few = omega (arith, f.few, r.count_is, length_push read pair);
      small = omega (arith, f.small, r.size_is, sum_by_push weight read pair);
    })

pub more_read : (read : Listing) (last : Option (Names × Node)) (count size : ℕ) (pair : Names × Node) → IsRead read last count size → IsRead (read ++ pair ∷ []) (Some pair) (count + 1) (size + weight pair)
more_read read last count size pair r = record {
  last_is = sym (last_of-push read pair);
  count_is = omega (arith, r.count_is, length_push read pair);
  size_is = omega (arith, r.size_is, sum_by_push weight read pair);
}

-- ---- no other pair

first_place : (pair : Names × Node) → IsTree (pair ∷ []) → goes_on None pair ≡ true
first_place pair t =
    let at_root : root ≡ pair.0 = ⊎_elim (λ e. e) (λ none. absurd (true≢false (sym none))) (found-cons pair [] root (found_directory (pair ∷ []) root t.rooted)) in
    and_from (length pair.0 == 0) (is_directory pair.1)
    (ap (λ path. length path == 0) (sym at_root))
    (sym (is_directory_at-from (pair ∷ []) pair.0 (Some pair.1) (cond-true _ _ _ (is_at-path_cmp pair.0))) ∙ subst (λ path. is_directory_at (pair ∷ []) path ≡ true) at_root t.rooted)

module _ (front : Listing) (last pair : Names × Node) (t : IsTree ((front ++ last ∷ []) ++ pair ∷ [])) where
  own : IsTree (front ++ last ∷ [])
  own = IsTree-front (front ++ last ∷ []) (pair ∷ []) (omega (arith, length_push front last)) t

  above_last : path_cmp last.0 pair.0 ≡ Less
  above_last = below_back (front ++ last ∷ []) (pair ∷ []) t last.0 pair.0 (ap is_some (node_at-last front last own.ordered)) (found_head pair [])

  other_than_child : (parent : Names) (name : List ℕ) → pair.0 ≡ parent ++ name ∷ [] → IsSome (node_at (pair ∷ []) parent) → ⊥
  other_than_child parent name e found =
      ⊎_elim (λ same. absurd (omega (arith, ap length (same ∙ e), length_push parent name))) (λ none. true≢false (sym none)) (found-cons pair [] parent found)

  left_open : (parent : Names) (name : List ℕ) → pair.0 ≡ parent ++ name ∷ [] → is_open last parent ≡ true
  left_open parent name e =
      is_open-from_directory front last own parent name (sym (ap (path_cmp last.0) e) ∙ above_last)
      (directory_in_front (front ++ last ∷ []) (pair ∷ []) t parent (other_than_child parent name e)
      (t.parents parent name (subst (λ path. IsSome (node_at ((front ++ last ∷ []) ++ pair ∷ []) path)) e (ap is_some (node_at-last (front ++ last ∷ []) pair t.ordered)))))

  next_place : goes_on (Some last) pair ≡ true
  next_place = and_from (is_lt (path_cmp last.0 pair.0)) (option_map_or (is_open last) (parent_of pair.0) false) (ap is_lt above_last) (by pair.0 refl)
    where
      by : (path : Names) → pair.0 ≡ path → option_map_or (is_open last) (parent_of path) false ≡ true
      by [] e = absurd (not_below_root last.0 (sym (ap (path_cmp last.0) e) ∙ above_last))
      by (name ∷ names) e = left_open (take (length names) (name ∷ names)) (get_or (name ∷ names) (length names) []) (e ∙ split_last name names)

place_from : (read : Listing) (pair : Names × Node) → IsTree (read ++ pair ∷ []) → goes_on (last_of read) pair ≡ true
place_from [] pair t = first_place pair t
place_from (first ∷ read) pair t =
    let e = ends first read in
    subst (λ last. goes_on last pair ≡ true) (sym e.last_is)
    (next_place e.front e.last pair (subst (λ pairs. IsTree (pairs ++ pair ∷ [])) e.is t))

-- where the listing of a tree begins with what was read and one more pair, that pair fits
pub fits_from_begins : (read : Listing) (last : Option (Names × Node)) (count size : ℕ) (pair : Names × Node) → IsRead read last count size → BeginsATree (read ++ pair ∷ []) → Fits last count size pair
fits_from_begins read last count size pair r b =
    let t = begins-tree (read ++ pair ∷ []) (omega (arith, length_push read pair)) b in
    let l = begins-limits (read ++ pair ∷ []) b in
    record {
      node = (every_value-back InRange read (pair ∷ []) t.nodes).0;
      place = subst (λ o. goes_on o pair ≡ true) (sym r.last_is) (place_from read pair t);
      few = omega (arith, l.few, r.count_is, length_push read pair);
      small = omega (arith, l.small, r.size_is, sum_by_push weight read pair);
    }

-- ---- a walk over pairs

next_taken : (pairs : Listing) (i : ℕ) (pair : Names × Node) → i < length pairs → pair ≡ get_or pairs i pair → take (i + 1) pairs ≡ take i pairs ++ pair ∷ []
next_taken pairs i pair within is = take_more pairs i pair within ∙ ap (λ next. take i pairs ++ next ∷ []) (sym is)

module _ (pairs : Listing) (i : ℕ) (pair : Names × Node) (last before : Option (Names × Node)) (count size total : ℕ) (within : i < length pairs) (is : pair ≡ get_or pairs i pair)
    (so_far : (read : Listing) → IsRead read last count size → BeginsATree read → IsRead (read ++ take i pairs) before (count + i) total × BeginsATree (read ++ take i pairs)) where
  next_read : (read : Listing) → read ++ take (i + 1) pairs ≡ (read ++ take i pairs) ++ pair ∷ []
  next_read read = ap (λ more. read ++ more) (next_taken pairs i pair within is) ∙ sym (append_assoc read (take i pairs) (pair ∷ []))

  pub reads_on : (weighed : ℕ) → IsPath pair.0 → Fits before (count + i) total pair → weighed ≡ min (weight pair) (2 ^ 64 - 1)
      → (total + weighed ≤ 268435456) × ((read : Listing) → IsRead read last count size → BeginsATree read → IsRead (read ++ take (i + 1) pairs) (Some pair) (count + (i + 1)) (total + weighed) × BeginsATree (read ++ take (i + 1) pairs))
  reads_on weighed p f w = (omega (arith, f.small, w), more)
    where
      more : (read : Listing) → IsRead read last count size → BeginsATree read → IsRead (read ++ take (i + 1) pairs) (Some pair) (count + (i + 1)) (total + weighed) × BeginsATree (read ++ take (i + 1) pairs)
      more read r b =
          let now = so_far read r b in
          let next = more_read (read ++ take i pairs) before (count + i) total pair now.0 in
          let told : IsRead ((read ++ take i pairs) ++ pair ∷ []) (Some pair) (count + (i + 1)) (total + weighed) = record { last_is = next.last_is; count_is = omega (arith, next.count_is); size_is = omega (arith, next.size_is, f.small, w) } in
          (subst (λ pairs. IsRead pairs (Some pair) (count + (i + 1)) (total + weighed)) (sym (next_read read)) told, subst BeginsATree (sym (next_read read)) (more_begins (read ++ take i pairs) before (count + i) total pair now.1 now.0 p f))

  pub stops : ¬ Fits before (count + i) total pair → (read : Listing) → IsRead read last count size → BeginsATree read → ¬ BeginsATree (read ++ take (i + 1) pairs)
  stops none read r b more = none (fits_from_begins (read ++ take i pairs) before (count + i) total pair (so_far read r b).0 (subst BeginsATree (next_read read) more))
