use Rattle.std.proofs.Common.{◌≡◌, take}
use Rattle.osb_tree.specs.Trees.{tree_size}
use Rattle.osb_tree.specs.Chunks.{pairs_of}
use Rattle.osb_tree.proofs.trees.Tree.from_chunks.Given as goal

abbrev pub invariant-loop-chunk : goal.invariant-loop-chunk
invariant-loop-chunk l =
    (l.nodes.entries ≡ pairs_of (take l.chunk-index l.chunks))
    × (l.size ≡ tree_size (pairs_of (take l.chunk-index l.chunks)))
