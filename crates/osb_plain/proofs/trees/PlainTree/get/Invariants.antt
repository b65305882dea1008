use Rattle.std.proofs.Common.{◌≡◌, drop}
use Rattle.osb_tree.specs.Trees.{node_at}
use Rattle.osb_plain.proofs.trees.PlainTree.get.Given as goal

abbrev pub invariant-loop-held : goal.invariant-loop-held
invariant-loop-held l = node_at (drop l.held-index l.held-items) l.path ≡ node_at l.held-items l.path
