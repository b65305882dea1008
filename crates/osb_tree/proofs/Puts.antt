-- What a put makes of a listing.
use Rattle.std.proofs.Common.{◌≡◌, ◌≢◌, ℕ, ◌+◌, ◌-◌, ◌^◌, ◌<◌, ◌≤◌, min, Bool, true, false, cond, not, ◌&&◌, ◌||◌, leb, List, [], ◌∷◌, ◌++◌, length, take, get_or, take_all, Some, None, Option, is_some, IsSome, IsTrue, IsFalse, MatchOption, option_copied, Bor, is_eq, sym, refl, ap, subst, ◌∙◌, ⊎_elim, arith, true≢false}
use Rattle.std.specs.Bool.{then_some}
use Rattle.std.specs.Option.{option_or, option_map_or}
use Rattle.std.specs.Cmp.Lexicographic.{lists_ties, texts_ties}
use Rattle.std.proofs.lemmas.Bool.{cond-true, cond-false, false_from_ne_true, true_from_ne_false, cases_Bool, or_parts, or_from, or_left, or_right, ltb-false, lt-ltb, le-ltb, leb-true, leb-false}
use Rattle.std.proofs.lemmas.List.{take_more}
use Rattle.std.proofs.lemmas.Map.Views.{tells_apart}
use Rattle.osb_tree.specs.Paths.{Names, root, IsPath, parent_of, is_beneath, name_cmp, path_cmp}
use Rattle.osb_tree.specs.Nodes.{is_directory, InRange}
use Rattle.osb_tree.specs.Trees.{Listing, IsTree, node_at, is_directory_at, weight, tree_size, put_at, has_beneath, directory_fault, parent_fault, takes_over, is_too_large, put_fault, IsWithinLimits}
use Rattle.osb_tree.specs.Laws.{is_same_path, share_at, PutSetsOnePath, PutAddsAPath, PutChangesSize, PutGivesATree, PutStaysWithinLimits, ParentIsADirectory}
use Rattle.osb_tree.specs.declared.nodes.Node.{Node}
use Rattle.osb_tree.specs.declared.faults.PutFault.TheVariants.{ParentNotDir}
use Rattle.osb_tree.proofs.Entries.{lookup-insert_entry, length-insert_entry, sum_by-insert_entry, share_found-le, sorted-insert_entry, every_key-insert_entry, every_value-insert_entry, list_any-from_lookup}
use Rattle.osb_tree.proofs.PathOrder.{path_cmp_total, path_cmp_exact, path_cmp-from_is_beneath, is_beneath-child}
use Rattle.osb_tree.proofs.PathLaws.{is_at-path_cmp, parent_of-append}

-- ---- what stands where

pub node_at-put_at : PutSetsOnePath
node_at-put_at listing path node q =
    rw (lists_ties name_cmp texts_ties path q) (lookup-insert_entry path_cmp_total listing path node q)

pub is_same_path-refl : (path : Names) → is_same_path path path ≡ true
is_same_path-refl path = lists_ties name_cmp texts_ties path path ∙ is_at-path_cmp path

pub is_same_path-exact : (p q : Names) → is_same_path p q ≡ true → p ≡ q
is_same_path-exact p q e = tells_apart path_cmp_exact p q (sym (lists_ties name_cmp texts_ties p q) ∙ e)

pub node_at-put_at_same : (listing : Listing) (path : Names) (node : Node) → node_at (put_at listing path node) path ≡ Some node
node_at-put_at_same listing path node = node_at-put_at listing path node path ∙ cond-true _ _ _ (is_same_path-refl path)

pub node_at-put_at_other : (listing : Listing) (path : Names) (node : Node) (q : Names) → path ≢ q → node_at (put_at listing path node) q ≡ node_at listing q
node_at-put_at_other listing path node q apart =
    node_at-put_at listing path node q ∙ cond-false _ _ _ (false_from_ne_true _ (λ e. apart (is_same_path-exact path q e)))

pub length-put_at : PutAddsAPath
length-put_at listing path node t = length-insert_entry path_cmp_total listing path node t.ordered

pub tree_size-put_at : PutChangesSize
tree_size-put_at listing path node t = sum_by-insert_entry path_cmp_total path_cmp_exact weight listing path node t.ordered

-- ---- directories

pub is_directory_at-from : (listing : Listing) (path : Names) (found : Option Node) → node_at listing path ≡ found → is_directory_at listing path ≡ option_map_or is_directory found false
is_directory_at-from listing path None e = rw e refl
is_directory_at-from listing path (Some node) e = rw e refl

-- two listings that have the same at a path have a directory there or not alike
pub is_directory_at-same : (listing other : Listing) (path : Names) → node_at listing path ≡ node_at other path → is_directory_at listing path ≡ is_directory_at other path
is_directory_at-same listing other path e = is_directory_at-from listing path (node_at other path) e ∙ sym (is_directory_at-from other path (node_at other path) refl)

-- ---- what a put with no fault knows

option_or-none : {A : Type 0} (x y : Option A) → option_or x y ≡ None → (x ≡ None) × (y ≡ None)
option_or-none None y e = (refl, e)
option_or-none (Some x) y e = absurd (true≢false (ap is_some e))

cond-none : {A : Type 0} (b : Bool) (x : A) (y : Option A) → cond b (Some x) y ≡ None → (b ≡ false) × (y ≡ None)
cond-none true x y e = absurd (true≢false (ap is_some e))
cond-none false x y e = (refl, e)

pub record PutFits (listing : Listing) (path : Names) (node : Node) : Type 0 where
  pub parent : parent_fault listing path ≡ None
  pub place : takes_over listing path node ≡ false
  pub small : is_too_large (put_at listing path node) ≡ false

pub PutFits-from_put_fault : (listing : Listing) (path : Names) (node : Node) → put_fault listing path node ≡ None → PutFits listing path node
PutFits-from_put_fault listing path node e =
    let parts = option_or-none _ _ e in
    let more = cond-none _ _ _ parts.1 in
    record { parent = parts.0; place = more.0; small = (cond-none _ _ _ more.1).0 }

directory_fault-none : (found : Option Node) → directory_fault found ≡ None → option_map_or is_directory found false ≡ true
directory_fault-none None e = absurd (true≢false (ap is_some e))
directory_fault-none (Some node) e = by (is_directory node) e
  where
    by : (b : Bool) → cond b None (Some ParentNotDir) ≡ None → b ≡ true
    by true e = refl
    by false e = absurd (true≢false (ap is_some e))

-- where the path has a parent, that is a directory
parent_is_directory : (listing : Listing) (path parent : Names) → parent_of path ≡ Some parent → parent_fault listing path ≡ None → is_directory_at listing parent ≡ true
parent_is_directory listing path parent p e =
    is_directory_at-from listing parent (node_at listing parent) refl ∙ directory_fault-none (node_at listing parent) (rw p at e)

-- what is no directory takes the place of nothing that has something beneath it
takes_over-none : (directory empty beneath : Bool) → (not directory && (empty || beneath)) ≡ false → directory ≡ false → (empty ≡ false) × (beneath ≡ false)
takes_over-none true empty beneath e d = absurd (true≢false d)
takes_over-none false true beneath e d = absurd (true≢false e)
takes_over-none false false beneath e d = (refl, e)

module _ (listing : Listing) (path : Names) (node : Node) (t : IsTree listing) (fits : PutFits listing path node) where
  -- a node with something beneath it is a directory
  directory_above : (name : List ℕ) → IsSome (node_at listing (path ++ name ∷ [])) → is_directory node ≡ true
  directory_above name found =
      true_from_ne_false (is_directory node) (λ n. true≢false (sym (list_any-from_lookup path_cmp_exact (path ++ name ∷ []) (is_beneath path) listing found (is_beneath-child path name)) ∙ (takes_over-none _ _ _ fits.place n).1))

  not_child : (name : List ℕ) → path ≢ path ++ name ∷ []
  not_child name e =
      let less = path_cmp-from_is_beneath path (path ++ name ∷ []) (is_beneath-child path name) in
      true≢false (sym (is_at-path_cmp path) ∙ ap (λ q. is_eq (path_cmp path q)) e ∙ ap is_eq less)

  -- the parent is the path itself
  parents_here : (name : List ℕ) → IsSome (node_at (put_at listing path node) (path ++ name ∷ [])) → is_directory_at (put_at listing path node) path ≡ true
  parents_here name found =
      is_directory_at-from (put_at listing path node) path (Some node) (node_at-put_at_same listing path node)
      ∙ directory_above name (subst IsSome (node_at-put_at_other listing path node (path ++ name ∷ []) (not_child name)) found)

  -- the parent is another path, where the child may be the path itself
  parents_elsewhere : (above : Names) (name : List ℕ) → path ≢ above → IsSome (node_at (put_at listing path node) (above ++ name ∷ [])) → is_directory_at (put_at listing path node) above ≡ true
  parents_elsewhere above name apart found =
      is_directory_at-same (put_at listing path node) listing above (node_at-put_at_other listing path node above apart)
      ∙ ⊎_elim
      (λ y. parent_is_directory listing path above (ap parent_of (is_same_path-exact path (above ++ name ∷ []) y) ∙ parent_of-append above name) fits.parent)
      (λ n. t.parents above name (subst IsSome (node_at-put_at listing path node (above ++ name ∷ []) ∙ cond-false _ _ _ n) found))
      (cases_Bool (is_same_path path (above ++ name ∷ [])))

  parents-put_at : (above : Names) (name : List ℕ) → IsSome (node_at (put_at listing path node) (above ++ name ∷ [])) → IsTrue (is_directory_at (put_at listing path node) above)
  parents-put_at above name =
      ⊎_elim
      (λ y. subst (λ q. IsSome (node_at (put_at listing path node) (q ++ name ∷ [])) → is_directory_at (put_at listing path node) q ≡ true) (is_same_path-exact path above y) (parents_here name))
      (λ n. parents_elsewhere above name (λ e. true≢false (sym (is_same_path-refl path) ∙ ap (is_same_path path) e ∙ n)))
      (cases_Bool (is_same_path path above))

  rooted-put_at : is_directory_at (put_at listing path node) root ≡ true
  rooted-put_at = by path node t.rooted fits.place
    where
      by : (p : Names) (n : Node) → is_directory_at listing root ≡ true → takes_over listing p n ≡ false → is_directory_at (put_at listing p n) root ≡ true
      by [] n rooted place =
          is_directory_at-from (put_at listing [] n) [] (Some n) (node_at-put_at_same listing [] n)
          ∙ true_from_ne_false (is_directory n) (λ d. true≢false (takes_over-none (is_directory n) true (has_beneath listing []) place d).0)
      by (x ∷ p) n rooted place =
          is_directory_at-same (put_at listing (x ∷ p) n) listing root (node_at-put_at listing (x ∷ p) n root) ∙ rooted

pub IsTree-from_PutFits : (listing : Listing) (path : Names) (node : Node) → IsTree listing → IsPath path → InRange node → PutFits listing path node → IsTree (put_at listing path node)
IsTree-from_PutFits listing path node t p n fits =
    record {
      ordered = sorted-insert_entry path_cmp_total listing path node t.ordered;
      paths = every_key-insert_entry path_cmp path node IsPath listing t.paths p;
      nodes = every_value-insert_entry path_cmp path node InRange listing t.nodes n;
      rooted = rooted-put_at listing path node t fits;
      parents = parents-put_at listing path node t fits;
    }

pub IsTree-put_at : PutGivesATree
IsTree-put_at listing path node t p n e = IsTree-from_PutFits listing path node t p n (PutFits-from_put_fault listing path node e)

-- a listing that is no larger than a tree may be
IsWithinLimits-from_is_too_large : (listing : Listing) → is_too_large listing ≡ false → IsWithinLimits listing
IsWithinLimits-from_is_too_large listing e =
    let parts = or_parts _ _ e in
    record { few = ltb-false _ _ parts.0; small = ltb-false _ _ parts.1 }

pub IsWithinLimits-put_at : PutStaysWithinLimits
IsWithinLimits-put_at listing path node e = IsWithinLimits-from_is_too_large (put_at listing path node) (PutFits-from_put_fault listing path node e).small

-- ---- parents

pub split_last : (name : List ℕ) (names : Names) → name ∷ names ≡ take (length names) (name ∷ names) ++ get_or (name ∷ names) (length names) [] ∷ []
split_last name names =
    sym (take_all (length names + 1) (name ∷ names) (omega arith)) ∙ take_more (name ∷ names) (length names) [] (omega arith)

pub parent_is_a_directory : ParentIsADirectory
parent_is_a_directory listing [] t found = tt
parent_is_a_directory listing (name ∷ names) t found =
    t.parents (take (length names) (name ∷ names)) (get_or (name ∷ names) (length names) []) (subst (λ q. IsSome (node_at listing q)) (split_last name names) found)

-- ---- how large it is then

pub is_too_large-within : (listing : Listing) → length listing ≤ 262144 → tree_size listing ≤ 268435456 → is_too_large listing ≡ false
is_too_large-within listing few small = or_from _ _ (le-ltb 262144 (length listing) few) (le-ltb 268435456 (tree_size listing) small)

is_too_large-long : (listing : Listing) → 262144 < length listing → is_too_large listing ≡ true
is_too_large-long listing many = or_left _ _ (lt-ltb 262144 (length listing) many)

pub is_too_large-no_room : (listing : Listing) (path : Names) (node : Node) → IsTree listing → ¬ (length listing + cond (is_some (node_at listing path)) 0 1 ≤ 262144) → is_too_large (put_at listing path node) ≡ true
is_too_large-no_room listing path node t full = is_too_large-long (put_at listing path node) (omega (arith, full, length-put_at listing path node t))

is_too_large-big : (listing : Listing) → 268435456 < tree_size listing → is_too_large listing ≡ true
is_too_large-big listing big = or_right _ _ (lt-ltb 268435456 (tree_size listing) big)

pub share_at-le-tree_size : (listing : Listing) (path : Names) → share_at listing path ≤ tree_size listing
share_at-le-tree_size listing path = share_found-le path_cmp_total path_cmp_exact weight listing path

-- a size that was added up to the greatest number at most
pub record AddsUp (listing : Listing) (path : Names) (node : Node) (size : ℕ) : Type 0 where
  pub tree : IsTree listing
  pub is : size ≡ min (tree_size listing - share_at listing path + min (weight (path, node)) (2 ^ 64 - 1)) (2 ^ 64 - 1)

pub tree_size-from_small : (listing : Listing) (path : Names) (node : Node) (size : ℕ) → AddsUp listing path node size → size ≤ 268435456 → size ≡ tree_size (put_at listing path node)
tree_size-from_small listing path node size a small =
    omega (arith, a.is, tree_size-put_at listing path node a.tree, share_at-le-tree_size listing path)

pub tree_size-from_big : (listing : Listing) (path : Names) (node : Node) (size : ℕ) → AddsUp listing path node size → 268435456 < size → 268435456 < tree_size (put_at listing path node)
tree_size-from_big listing path node size a big =
    omega (arith, a.is, tree_size-put_at listing path node a.tree, share_at-le-tree_size listing path)

-- the share of what was found at a path, where it was weighed up to the greatest number
pub share_at-weighed : (listing : Listing) (path : Names) (found : Option (Bor Node)) (share : ℕ) → IsWithinLimits listing → option_copied found ≡ node_at listing path → MatchOption found (share ≡ 0) (λ node. share ≡ min (weight (path, node.now)) (2 ^ 64 - 1)) → share ≡ share_at listing path
share_at-weighed listing path None share t e h = rw (← e) h
share_at-weighed listing path (Some node) share t e h =
    let weighs : share_at listing path ≡ weight (path, node.now) = rw (← e) refl in
    omega (arith, h, weighs, share_at-le-tree_size listing path, t.small)

-- the size is given where the tree is not too large
pub is_too_large-answered : (listing : Listing) (path : Names) (node : Node) (size : ℕ) (given : Option ℕ) → AddsUp listing path node size → length listing + cond (is_some (node_at listing path)) 0 1 ≤ 262144 → given ≡ then_some (leb size 268435456) size
    → MatchOption given (IsTrue (is_too_large (put_at listing path node))) (λ size. IsFalse (is_too_large (put_at listing path node)) × (size ≡ tree_size (put_at listing path node)))
is_too_large-answered listing path node size given a room e = rw e (by (leb size 268435456) refl)
  where
    by : (b : Bool) → leb size 268435456 ≡ b → MatchOption (then_some b size) (IsTrue (is_too_large (put_at listing path node))) (λ size. IsFalse (is_too_large (put_at listing path node)) × (size ≡ tree_size (put_at listing path node)))
    by true small =
        let is = tree_size-from_small listing path node size a (leb-true size 268435456 small) in
        let few = length-put_at listing path node a.tree in
        (is_too_large-within (put_at listing path node) (omega (arith, few, room)) (omega (arith, is, leb-true size 268435456 small)), is)
    by false big = is_too_large-big (put_at listing path node) (tree_size-from_big listing path node size a (leb-false size 268435456 big))

-- what a `Tree` keeps of its listing after a put that fits
pub tree-after_put : (held listing after : Listing) (path : Names) (node : Node) (size : ℕ) → held ≡ listing → after ≡ put_at held path node → IsTree held → IsPath path → InRange node → PutFits listing path node → size ≡ tree_size (put_at listing path node)
    → (size ≡ tree_size after) × IsTree after × IsWithinLimits after
tree-after_put held listing after path node size same e t p n fits is =
    rw (e, same) (is, IsTree-from_PutFits listing path node (subst IsTree same t) p n fits, IsWithinLimits-from_is_too_large (put_at listing path node) fits.small)
