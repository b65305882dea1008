use Rattle.std.proofs.Common.{◌≡◌, get_or, sym, subst, ◌∙◌, arith}
use Rattle.osb_tree.specs.Trees.{Listing}
use Rattle.osb_tree.proofs.ChunkReadings.{parts_small, parts_sorted}
use Rattle.osb_tree.proofs.trees.Tree.from_chunks.Goals as goal

pub add_pairs-requires : goal.add_pairs-requires
add_pairs-requires c =
    let at = subst (λ (x : Listing). x ≡ get_or c.args.chunks.now c.loop-chunk.chunk-index x) (sym (c.pairs.ensures.pairs ∙ c.get.ensures.value)) c.chunk-item.is in
    parts_sorted c.args.chunks.now c.loop-chunk.chunk-index c.pairs.result.now c.loop-chunk.nodes.entries c.loop-chunk-test.true at c.loop-chunk.invariant.0 c.requires.tree.ordered

pub overflow_add-size : goal.overflow_add-size
overflow_add-size c =
    omega (arith, c.loop-chunk.invariant.1, parts_small c.args.chunks.now c.loop-chunk.chunk-index, c.requires.limits.small, c.weight-size.ensures.small)
