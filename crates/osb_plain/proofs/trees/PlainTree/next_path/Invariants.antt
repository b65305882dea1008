use Rattle.std.proofs.Common.{◌≡◌, drop}
use Rattle.osb_tree.specs.Trees.{next_after}
use Rattle.osb_plain.proofs.trees.PlainTree.next_path.Given as goal

abbrev pub invariant-loop-path : goal.invariant-loop-path
invariant-loop-path l = next_after (drop l.path-index l.path-items) l.after ≡ next_after l.path-items l.after
