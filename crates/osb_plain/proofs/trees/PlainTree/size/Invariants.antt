use Rattle.std.proofs.Common.{◌≡◌, ◌-◌, ◌^◌, min, take}
use Rattle.osb_tree.specs.Trees.{tree_size}
use Rattle.osb_plain.proofs.trees.PlainTree.size.Given as goal

abbrev pub invariant-loop-path : goal.invariant-loop-path
invariant-loop-path l = l.size ≡ min (tree_size (take l.path-index l.path-items)) (2 ^ 64 - 1)
