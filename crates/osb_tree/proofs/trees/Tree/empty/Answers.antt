use Rattle.std.proofs.Common.{rules}
use Rattle.osb_tree.proofs.TreeLaws.{empty_tree-kept}
use Rattle.osb_tree.proofs.trees.Tree.empty.Goals as goal

pub invariant_of-result : goal.invariant_of-result
invariant_of-result c = empty_tree-kept _ (search rules)
