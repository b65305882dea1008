-- The first pairs of a tree's listing: they list a tree too, and which pair can stand behind them.
use Rattle.std.proofs.Common.{◌≡◌, ℕ, ◌==◌, ◌<◌, true, ◌||◌, List, [], ◌∷◌, ◌++◌, length, take, drop, take_all, Some, None, Option, is_some, IsSome, IsTrue, Less, is_lt, sym, refl, ap, subst, ◌∙◌, ◌⊎◌, inl, inr, ⊎_elim, append_assoc, arith, true≢false}
use Rattle.std.specs.Prelude.{nat_lt}
use Rattle.std.specs.Ordering.{ordering_reverse}
use Rattle.std.specs.List.{AllByRecursion, starts_with}
use Rattle.std.specs.List.Sorted.{IsStrictlySortedBy}
use Rattle.std.specs.Map.{keys_of}
use Rattle.std.specs.Cmp.Lexicographic.{pointwise}
use Rattle.std.proofs.lemmas.Bool.{cond-true, and_parts, and_from, or_left, or_right, or_cases, lt-ltb, le-ltb}
use Rattle.std.proofs.lemmas.List.{append-nil, take-append-drop}
use Rattle.osb_tree.specs.Paths.{Names, root, IsPath, is_beneath, path_cmp}
use Rattle.osb_tree.specs.Nodes.{is_directory, InRange}
use Rattle.osb_tree.specs.Trees.{Listing, IsTree, node_at, is_directory_at}
use Rattle.osb_tree.specs.Readings.{is_open}
use Rattle.osb_tree.specs.Laws.{is_same_path}
use Rattle.osb_tree.specs.declared.nodes.Node.{Node}
use Rattle.osb_tree.proofs.Entries.{key_from_lookup}
use Rattle.osb_tree.proofs.Fronts.{every_key-front, every_value-front, lookup-front, lookup-back, lookup-above, sorted-front, sorted-across, below_last}
use Rattle.osb_tree.proofs.PathLaws.{is_at-path_cmp}
use Rattle.osb_tree.proofs.PathOrder.{path_cmp_total, path_cmp_exact, path_cmp-from_is_beneath, is_beneath-between, is_beneath-child, is_beneath-from_front}
use Rattle.osb_tree.proofs.NextPaths.{found-cons}
use Rattle.osb_tree.proofs.Puts.{is_same_path-exact, is_same_path-refl, is_directory_at-from, is_directory_at-same}

-- ---- directories that are found

pub found_directory : (listing : Listing) (path : Names) → is_directory_at listing path ≡ true → IsSome (node_at listing path)
found_directory listing path d = by (node_at listing path) refl
  where
    by : (found : Option Node) → node_at listing path ≡ found → IsSome (node_at listing path)
    by None e = absurd (true≢false (sym d ∙ is_directory_at-from listing path None e))
    by (Some node) e = ap is_some e

pub found_head : (pair : Names × Node) (pairs : Listing) → IsSome (node_at (pair ∷ pairs) pair.0)
found_head pair pairs = ap is_some (cond-true _ _ _ (is_at-path_cmp pair.0))

pub not_below_root : (path : Names) → path_cmp path root ≡ Less → ⊥
not_below_root [] h = true≢false (sym (ap is_lt h))
not_below_root (name ∷ path) h = true≢false (sym (ap is_lt h))

pub not_both_below : (p q : Names) → path_cmp p q ≡ Less → path_cmp q p ≡ Less → ⊥
not_both_below p q h k = true≢false (ap is_lt (sym h ∙ path_cmp_total.antisymm p q ∙ ap ordering_reverse k))

-- ---- the first part of a listing

module _ (xs ys : Listing) (t : IsTree (xs ++ ys)) where
  pub below_back : (p q : Names) → IsSome (node_at xs p) → IsSome (node_at ys q) → path_cmp p q ≡ Less
  below_back p q f g =
      key_from_lookup path_cmp_exact q (λ y. path_cmp p y ≡ Less) ys g
      (key_from_lookup path_cmp_exact p (λ x. AllByRecursion (λ y. path_cmp x y ≡ Less) (keys_of ys)) xs f (sorted-across path_cmp xs ys t.ordered))

  pub directory_in_front : (q : Names) → ¬ IsSome (node_at ys q) → is_directory_at (xs ++ ys) q ≡ true → is_directory_at xs q ≡ true
  directory_in_front q none d = by (node_at xs q) refl
    where
      by : (found : Option Node) → node_at xs q ≡ found → is_directory_at xs q ≡ true
      by None e = absurd (none (subst IsSome (lookup-back _ xs ys e) (found_directory (xs ++ ys) q d)))
      by (Some node) e = is_directory_at-same xs (xs ++ ys) q (sym (lookup-front _ xs ys (ap is_some e))) ∙ d

  parents-front : (path : Names) (name : List ℕ) → IsSome (node_at xs (path ++ name ∷ [])) → IsTrue (is_directory_at xs path)
  parents-front path name found =
      directory_in_front path
      (λ later. not_both_below path (path ++ name ∷ []) (path_cmp-from_is_beneath path (path ++ name ∷ []) (is_beneath-child path name)) (below_back (path ++ name ∷ []) path found later))
      (t.parents path name (subst IsSome (sym (lookup-front _ xs ys found)) found))

  rooted-front : 0 < length xs → IsTrue (is_directory_at xs root)
  rooted-front some = directory_in_front root (λ later. by xs some (λ p found. below_back p root found later)) t.rooted
    where
      by : (pairs : Listing) → 0 < length pairs → ((p : Names) → IsSome (node_at pairs p) → path_cmp p root ≡ Less) → ⊥
      by [] some below = absurd (omega (arith, some))
      by (pair ∷ pairs) some below = not_below_root pair.0 (below pair.0 (found_head pair pairs))

pub IsTree-front : (xs ys : Listing) → 0 < length xs → IsTree (xs ++ ys) → IsTree xs
IsTree-front xs ys some t = record {
  ordered = sorted-front path_cmp xs ys t.ordered;
  paths = every_key-front IsPath xs ys t.paths;
  nodes = every_value-front InRange xs ys t.nodes;
  rooted = rooted-front xs ys t some;
  parents = parents-front xs ys t;
}

-- ---- the last pair, and what lies above it

pub node_at-last : (front : Listing) (last : Names × Node) → IsStrictlySortedBy path_cmp (keys_of (front ++ last ∷ [])) → node_at (front ++ last ∷ []) last.0 ≡ Some last.1
node_at-last front last s =
    lookup-back _ front (last ∷ []) (lookup-above path_cmp_total front last.0 (below_last path_cmp front last s)) ∙ cond-true _ _ _ (is_at-path_cmp last.0)

up_to_last : (front : Listing) (last : Names × Node) (q : Names) → IsStrictlySortedBy path_cmp (keys_of (front ++ last ∷ [])) → IsSome (node_at (front ++ last ∷ []) q) → (q ≡ last.0) ⊎ (path_cmp q last.0 ≡ Less)
up_to_last front last q s found = by (node_at front q) refl
  where
    by : (here : Option Node) → node_at front q ≡ here → (q ≡ last.0) ⊎ (path_cmp q last.0 ≡ Less)
    by None e =
        ⊎_elim (λ same. inl same) (λ none. absurd (true≢false (sym none)))
        (found-cons last [] q (subst IsSome (lookup-back _ front (last ∷ []) e) found))
    by (Some node) e = inr (key_from_lookup path_cmp_exact q (λ k. path_cmp k last.0 ≡ Less) front (ap is_some e) (below_last path_cmp front last s))

directories_above : (listing : Listing) → IsTree listing → (path : Names) (name : List ℕ) (names : Names) → IsSome (node_at listing (path ++ name ∷ names)) → is_directory_at listing path ≡ true
directories_above listing t path name [] found = t.parents path name found
directories_above listing t path name (next ∷ names) found =
    t.parents path name (found_directory listing (path ++ name ∷ []) (directories_above listing t (path ++ name ∷ []) next names (subst (λ p. IsSome (node_at listing p)) (sym (append_assoc path (name ∷ []) (next ∷ names))) found)))

pub begins_with : (path front : Names) → starts_with (pointwise ◌==◌) path front ≡ true → path ≡ front ++ drop (length front) path
begins_with path front h =
    sym (ap (λ p. p ++ drop (length front) path) (is_same_path-exact front (take (length front) path) h) ∙ take-append-drop (length front) path)

own_front : (path : Names) → starts_with (pointwise ◌==◌) path path ≡ true
own_front path = subst (λ p. is_same_path path p ≡ true) (sym (take_all (length path) path (omega arith))) (is_same_path-refl path)

longer_beneath : (p q : Names) → is_beneath p q ≡ true → length p < length q
longer_beneath [] [] h = absurd (true≢false (sym h))
longer_beneath [] (y ∷ q) h = omega arith
longer_beneath (x ∷ p) [] h = absurd (true≢false (sym h))
longer_beneath (x ∷ p) (y ∷ q) h = omega (arith, longer_beneath p q (and_parts _ _ h).1)

module _ (front : Listing) (last : Names × Node) (t : IsTree (front ++ last ∷ [])) where
  -- what the last pair leaves open is a directory
  pub directory_from_is_open : (parent : Names) → is_open last parent ≡ true → is_directory_at (front ++ last ∷ []) parent ≡ true
  directory_from_is_open parent h =
      let parts = and_parts _ _ h in
      by (drop (length parent) last.0) (begins_with last.0 parent parts.0) parts.1
    where
      by : (rest : Names) → last.0 ≡ parent ++ rest → (nat_lt (length parent) (length last.0) || is_directory last.1) ≡ true → is_directory_at (front ++ last ∷ []) parent ≡ true
      by [] e d =
          let same : last.0 ≡ parent = e ∙ append-nil parent in
          is_directory_at-from (front ++ last ∷ []) parent (Some last.1) (subst (λ p. node_at (front ++ last ∷ []) p ≡ Some last.1) same (node_at-last front last t.ordered))
          ∙ ⊎_elim (λ l. absurd (true≢false (sym l ∙ le-ltb (length parent) (length last.0) (omega (arith, ap length same))))) (λ y. y) (or_cases (nat_lt (length parent) (length last.0)) (is_directory last.1) d)
      by (name ∷ rest) e d =
          directories_above (front ++ last ∷ []) t parent name rest
          (subst (λ p. IsSome (node_at (front ++ last ∷ []) p)) e (ap is_some (node_at-last front last t.ordered)))

  -- and a directory that what stands behind the last pair can stand in is left open by it
  pub is_open-from_directory : (parent : Names) (name : List ℕ) → path_cmp last.0 (parent ++ name ∷ []) ≡ Less → is_directory_at (front ++ last ∷ []) parent ≡ true → is_open last parent ≡ true
  is_open-from_directory parent name less d =
      ⊎_elim at_last before_last (up_to_last front last parent t.ordered (found_directory _ parent d))
    where
      at_last : parent ≡ last.0 → is_open last parent ≡ true
      at_last e = rw e (and_from _ _ (own_front last.0) (or_right _ _ (sym (is_directory_at-from (front ++ last ∷ []) last.0 (Some last.1) (node_at-last front last t.ordered)) ∙ subst (λ p. is_directory_at (front ++ last ∷ []) p ≡ true) e d)))

      before_last : path_cmp parent last.0 ≡ Less → is_open last parent ≡ true
      before_last l =
          let beneath = is_beneath-between parent last.0 (parent ++ name ∷ []) l less (is_beneath-child parent name) in
          let longer = longer_beneath parent last.0 beneath in
          and_from _ _ (is_beneath-from_front parent last.0 longer ∙ beneath) (or_left _ _ (lt-ltb _ _ longer))
