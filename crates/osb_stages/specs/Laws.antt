-- What holds of rules, as their callers use it.
use Rattle.std.specs.Prelude.{IsFalse}
use Rattle.osb_tree.specs.Paths.{Names}
use Rattle.osb_tree.specs.Trees.{Listing, IsTree, is_directory_at, takes_over}
use Rattle.osb_tree.specs.declared.nodes.Node.{Node}

-- a node put where no directory stands takes the place of nothing that has something beneath it
abbrev pub OnlyDirectoriesAreTakenOver : Type 0
OnlyDirectoriesAreTakenOver = (listing : Listing) (path : Names) (node : Node) → IsTree listing → IsFalse (is_directory_at listing path) → IsFalse (takes_over listing path node)
