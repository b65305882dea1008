use Rattle.std.proofs.Common.{◌≡◌, ◌++◌, take}
use Rattle.osb_tree.proofs.trees.add_pairs.Given as goal

abbrev pub invariant-loop-path : goal.invariant-loop-path
invariant-loop-path l = l.nodes.entries ≡ l.initial.nodes.entries ++ take l.path-index l.pairs
