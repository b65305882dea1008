use Rattle.std.proofs.Common.{rules}
use Rattle.osb_tree.proofs.NextPaths.{has_beneath-tested}
use Rattle.osb_tree.proofs.trees.Tree.has_beneath.Goals as goal

pub returns : goal.returns
returns c = has_beneath-tested _ _ c.following.result _ c.following.ensures.tree c.following.ensures.next (search rules)
