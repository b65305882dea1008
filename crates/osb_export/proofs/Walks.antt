-- A walk over a listing, from each path to the next.
use Rattle.std.proofs.Common.{◌≡◌, ℕ, ◌+◌, ◌<◌, false, cond, List, [], ◌∷◌, ◌++◌, length, take, drop, get_or, Option, Some, None, IsTrue, Ordering, Less, Equal, Greater, is_eq, is_lt, sym, refl, ap, subst, ◌∙◌, add-one, drop-cons, take-append-drop}
use Rattle.std.specs.Ordering.{ordering_reverse}
use Rattle.std.specs.List.{AllByRecursion}
use Rattle.std.specs.List.Sorted.{IsStrictlySortedBy}
use Rattle.std.specs.Map.{keys_of}
use Rattle.std.proofs.lemmas.Bool.{false≢true}
use Rattle.std.proofs.lemmas.Cmp.{tied_itself}
use Rattle.std.proofs.lemmas.Map.Keys.{sorted_head, sorted_tail}
use Rattle.osb_tree.specs.Paths.{Names, root, path_cmp}
use Rattle.osb_tree.specs.Trees.{Listing, IsTree, node_at, next_after, is_directory_at}
use Rattle.osb_tree.specs.declared.nodes.Node.{Node}
use Rattle.osb_tree.specs.declared.nodes.Node.TheVariants.{Dir}
use Rattle.std.proofs.Math.Seq.{take-suc}
use Rattle.osb_tree.proofs.PathOrder.{path_cmp_total}

-- the path of the first entry
abbrev pub first_path : Listing → Option Names
first_path [] = None
first_path (entry ∷ entries) = Some entry.0

-- the map has an entry's node at its path, and the next path is that of the entry after it
pub record Stands (listing rest : Listing) (entry : Names × Node) : Type 0 where
  pub found : node_at listing entry.0 ≡ Some entry.1
  pub next : next_after listing entry.0 ≡ first_path rest

all_at : (P : Names → Type 0) (front rest : Listing) (entry : Names × Node) → AllByRecursion P (keys_of (front ++ entry ∷ rest)) → P entry.0
all_at P [] rest entry all = all.0
all_at P (first ∷ front) rest entry all = all_at P front rest entry all.1

same_itself : (path : Names) → path_cmp path path ≡ Equal
same_itself path = tied_itself path_cmp_total path

next_is_first : (rest : Listing) (path : Names) → AllByRecursion (λ q. path_cmp path q ≡ Less) (keys_of rest) → next_after rest path ≡ first_path rest
next_is_first [] path all = refl
next_is_first (entry ∷ rest) path all = ap (λ r. cond (is_lt r) (Some entry.0) (next_after rest path)) all.0

pub stands : (front rest : Listing) (entry : Names × Node) → IsStrictlySortedBy path_cmp (keys_of (front ++ entry ∷ rest)) → Stands (front ++ entry ∷ rest) rest entry
stands [] rest entry sorted = record {
  found = ap (λ r. cond (is_eq r) (Some entry.1) (node_at rest entry.0)) (same_itself entry.0);
  next = ap (λ r. cond (is_lt r) (Some entry.0) (next_after rest entry.0)) (same_itself entry.0) ∙ next_is_first rest entry.0 (sorted_head path_cmp entry.0 (keys_of rest) sorted);
}
stands (first ∷ front) rest entry sorted =
    let later : Listing = front ++ entry ∷ rest in
    let below : path_cmp first.0 entry.0 ≡ Less = all_at (λ q. path_cmp first.0 q ≡ Less) front rest entry (sorted_head path_cmp first.0 (keys_of later) sorted) in
    let above : path_cmp entry.0 first.0 ≡ Greater = path_cmp_total.antisymm entry.0 first.0 ∙ ap ordering_reverse below in
    let inner = stands front rest entry (sorted_tail path_cmp first.0 (keys_of later) sorted) in
    record {
      found = ap (λ r. cond (is_eq r) (Some first.1) (node_at later entry.0)) above ∙ inner.found;
      next = ap (λ r. cond (is_lt r) (Some first.0) (next_after later entry.0)) above ∙ inner.next;
    }

-- behind a path that isn't the root the root doesn't come
no_root : (name : List ℕ) (names : Names) (entries : Listing) → AllByRecursion (λ q. path_cmp (name ∷ names) q ≡ Less) (keys_of entries) → is_directory_at entries root ≡ false
no_root name names [] all = refl
no_root name names (([], node) ∷ entries) all = absurd (cc (all.0))
no_root name names ((n ∷ ns, node) ∷ entries) all = no_root name names entries all.1

-- the root is the first path of a tree
pub first_path-root : (listing : Listing) → IsTree listing → first_path listing ≡ Some root
first_path-root [] tree = absurd (false≢true tree.rooted)
first_path-root (([], node) ∷ entries) tree = refl
first_path-root ((n ∷ ns, node) ∷ entries) tree = absurd (false≢true (subst IsTrue (no_root n ns entries (sorted_head path_cmp (n ∷ ns) (keys_of entries) tree.ordered)) tree.rooted))

-- the entry at a place of a tree: what a walk finds there, and where it goes on
pub record Place (listing : Listing) (i : ℕ) : Type 0 where
  pub entry : Names × Node
  pub from : drop i listing ≡ entry ∷ drop (i + 1) listing
  pub upto : take (i + 1) listing ≡ take i listing ++ entry ∷ []
  pub found : node_at listing entry.0 ≡ Some entry.1
  pub next : next_after listing entry.0 ≡ first_path (drop (i + 1) listing)

split_at : (front rest listing : Listing) (entry : Names × Node) → front ++ entry ∷ rest ≡ listing → IsTree listing → Stands listing rest entry
split_at front rest listing entry e tree = subst (λ l. Stands l rest entry) e (stands front rest entry (subst (λ l. IsStrictlySortedBy path_cmp (keys_of l)) (sym e) tree.ordered))

pub place_at : (listing : Listing) (i : ℕ) → IsTree listing → i < length listing → Place listing i
place_at listing i tree h =
    let d : Names × Node = (root, Dir 0 0 0) in
    let entry : Names × Node = get_or listing i d in
    let from : drop i listing ≡ entry ∷ drop (i + 1) listing = rw (drop-cons listing i d, add-one) refl in
    let here = split_at (take i listing) (drop (i + 1) listing) listing entry (ap (λ l. take i listing ++ l) (sym from) ∙ take-append-drop i listing) tree in
    record {
      entry = entry;
      from = from;
      upto = rw (add-one, take-suc listing i d) refl;
      found = here.found;
      next = here.next;
    }

-- what a walk finds at a path of a tree, where that is the one at a place
pub record Visit (listing : Listing) (i : ℕ) (path : Names) : Type 0 where
  pub node : Node
  pub from : drop i listing ≡ (path, node) ∷ drop (i + 1) listing
  pub upto : take (i + 1) listing ≡ take i listing ++ (path, node) ∷ []
  pub found : node_at listing path ≡ Some node
  pub next : next_after listing path ≡ first_path (drop (i + 1) listing)

pub visit_at : (listing : Listing) (i : ℕ) (path : Names) → IsTree listing → i < length listing → first_path (drop i listing) ≡ Some path → Visit listing i path
visit_at listing i path tree h first =
    let here = place_at listing i tree h in
    let same : here.entry.0 ≡ path = some_is here.entry.0 path (sym (ap first_path here.from) ∙ first) in
    subst (Visit listing i) same (record { node = here.entry.1; from = here.from; upto = here.upto; found = here.found; next = here.next })
  where
    some_is : (p q : Names) → Some p ≡ Some q → p ≡ q
    some_is p q e = cc

-- within a listing there is a next path
pub first_path-within : (listing : Listing) (i : ℕ) → IsTree listing → i < length listing → first_path (drop i listing) ≡ None → ⊥
first_path-within listing i tree h none =
    let here = place_at listing i tree h in
    let some : first_path (drop i listing) ≡ Some here.entry.0 = ap first_path here.from in
    cc
