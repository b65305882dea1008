-- What is found in a tree.
use Rattle.std.proofs.Common.{◌≡◌, [], ◌∷◌, Bool, true, false, cond, Some, is_some, is_eq, sym, ap, subst, true≢false}
use Rattle.std.specs.List.{AllByRecursion}
use Rattle.std.specs.Map.{values_of}
use Rattle.osb_tree.specs.Paths.{Names, path_cmp}
use Rattle.osb_tree.specs.Nodes.{InRange}
use Rattle.osb_tree.specs.Trees.{Listing, IsTree, node_at}
use Rattle.osb_tree.specs.declared.nodes.Node.{Node}

in_range-at : (listing : Listing) (path : Names) (node : Node) → AllByRecursion InRange (values_of listing) → node_at listing path ≡ Some node → InRange node
in_range-at [] path node all found = absurd (true≢false (ap is_some (sym found)))
in_range-at (entry ∷ entries) path node all found = by (is_eq (path_cmp path entry.0)) found (in_range-at entries path node all.1)
  where
    by : (b : Bool) → cond b (Some entry.1) (node_at entries path) ≡ Some node → (node_at entries path ≡ Some node → InRange node) → InRange node
    by true f later =
        let same : entry.1 ≡ node = cc in
        subst InRange same all.0
    by false f later = later f

pub InRange-found : (listing : Listing) (path : Names) (node : Node) → IsTree listing → Some node ≡ node_at listing path → InRange node
InRange-found listing path node tree found = in_range-at listing path node tree.nodes (sym found)
