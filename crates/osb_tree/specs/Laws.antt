-- What holds of every tree, as its callers use it.
use Rattle.std.specs.Prelude.{◌≡◌, ℕ, ◌+◌, ◌==◌, Bool, length, unwrap_or, is_some, IsSome, IsTrue, IsFalse, Some, None, option_map, MatchOption, IfSome, if◌then◌else◌}
use Rattle.std.specs.Ordering.{is_lt, is_le}
use Rattle.std.specs.Cmp.Lexicographic.{pointwise}
use Rattle.osb_tree.specs.Paths.{Names, IsPath, parent_of, path_cmp}
use Rattle.osb_tree.specs.Nodes.{InRange}
use Rattle.osb_tree.specs.Trees.{Listing, IsTree, node_at, is_directory_at, weight, tree_size, put_at, put_fault, next_after, IsWithinLimits}
use Rattle.osb_tree.specs.declared.nodes.Node.{Node}

abbrev pub is_same_path : Names → Names → Bool
is_same_path = pointwise (pointwise ◌==◌)

-- a put sets what stands at its path, and nothing else
abbrev pub PutSetsOnePath : Type 0
PutSetsOnePath = (listing : Listing) (path : Names) (node : Node) (q : Names) → node_at (put_at listing path node) q ≡ (if is_same_path path q then Some node else node_at listing q)

-- a put adds a path where nothing stood
abbrev pub PutAddsAPath : Type 0
PutAddsAPath = (listing : Listing) (path : Names) (node : Node) → IsTree listing → length (put_at listing path node) ≡ length listing + (if is_some (node_at listing path) then 0 else 1)

-- the share in the size of what stands at a path
abbrev pub share_at : Listing → Names → ℕ
share_at listing path = unwrap_or (option_map (λ node. weight (path, node)) (node_at listing path)) 0

-- a put takes the share of what stood at the path out of the size, and adds the new one
abbrev pub PutChangesSize : Type 0
PutChangesSize = (listing : Listing) (path : Names) (node : Node) → IsTree listing → tree_size (put_at listing path node) + share_at listing path ≡ tree_size listing + weight (path, node)

-- a put with no fault gives a tree
abbrev pub PutGivesATree : Type 0
PutGivesATree = (listing : Listing) (path : Names) (node : Node) → IsTree listing → IsPath path → InRange node → put_fault listing path node ≡ None → IsTree (put_at listing path node)

-- and one that is no larger than a tree may be
abbrev pub PutStaysWithinLimits : Type 0
PutStaysWithinLimits = (listing : Listing) (path : Names) (node : Node) → put_fault listing path node ≡ None → IsWithinLimits (put_at listing path node)

-- a path of a tree stands in a directory, unless it is the root
abbrev pub ParentIsADirectory : Type 0
ParentIsADirectory = (listing : Listing) (path : Names) → IsTree listing → IsSome (node_at listing path) → IfSome (parent_of path) (λ parent. IsTrue (is_directory_at listing parent))

-- a path of the listing that is greater than the given one, and no greater than any other such path
pub record IsLeastAbove (listing : Listing) (after next : Names) : Type 0 where
  pub there : IsSome (node_at listing next)
  pub above : IsTrue (is_lt (path_cmp after next))
  pub least : (q : Names) → IsSome (node_at listing q) → IsTrue (is_lt (path_cmp after q)) → IsTrue (is_le (path_cmp next q))

abbrev pub NoneIsAbove : Listing → Names → Type 0
NoneIsAbove listing after = (q : Names) → IsSome (node_at listing q) → IsFalse (is_lt (path_cmp after q))

-- the next path is the least of the greater ones
abbrev pub NextIsLeastAbove : Type 0
NextIsLeastAbove = (listing : Listing) (after : Names) → IsTree listing → MatchOption (next_after listing after) (NoneIsAbove listing after) (IsLeastAbove listing after)
