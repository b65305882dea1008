use Rattle.std.proofs.Common.{◌≡◌, drop}
use Rattle.osb_tree.proofs.trees.Tree.chunk.Given as goal

abbrev pub invariant-loop : goal.invariant-loop
invariant-loop l = l.rest ≡ drop l.counter l.self
