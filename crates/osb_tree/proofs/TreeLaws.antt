-- Laws of listings.
use Rattle.std.proofs.Common.{◌≡◌, ℕ, List, [], ◌∷◌, ◌++◌, refl, lit≤, rules}
use Rattle.std.specs.Prelude.{IsSome, IsTrue}
use Rattle.std.specs.List.Sorted.{IsStrictlySortedBy}
use Rattle.osb_tree.specs.Paths.{Names, root, path_cmp}
use Rattle.osb_tree.specs.Trees.{Listing, IsTree, IsWithinLimits, empty_tree, tree_size, is_directory_at, node_at}

one_is_sorted : IsStrictlySortedBy path_cmp (root ∷ [])
unfolding IsStrictlySortedBy
one_is_sorted = search rules

-- nothing lies above the root alone
no_child : (path : Names) (name : List ℕ) → IsSome (node_at empty_tree (path ++ name ∷ [])) → IsTrue (is_directory_at empty_tree path)
no_child [] name h = search rules
no_child (p ∷ path) name h = search rules

pub empty_tree-is_tree : IsTree empty_tree
empty_tree-is_tree = record {
  ordered = one_is_sorted;
  paths = (record { named = search rules; short = lit≤ tt }, tt);
  nodes = ((lit≤ tt, lit≤ tt, lit≤ tt), tt);
  rooted = search rules;
  parents = no_child;
}

pub empty_tree-is_within_limits : IsWithinLimits empty_tree
empty_tree-is_within_limits = record { few = lit≤ tt; small = lit≤ tt }

-- what a `Tree` keeps of its listing, where that is the empty tree
pub empty_tree-kept : (listing : Listing) → listing ≡ empty_tree → (65 ≡ tree_size listing) × IsTree listing × IsWithinLimits listing
empty_tree-kept listing e = rw e (refl, empty_tree-is_tree, empty_tree-is_within_limits)
