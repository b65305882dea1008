use Rattle.std.proofs.Common.{◌≡◌, ◌*◌, drop}
use Rattle.osb_tree.specs.Chunks.{chunks_below}
use Rattle.osb_tree.proofs.trees.Tree.all_chunks.Given as goal

abbrev pub invariant-loop : goal.invariant-loop
invariant-loop l = (l.chunks.items ≡ chunks_below l.counter l.self) × (l.rest ≡ drop (256 * l.counter) l.self)
