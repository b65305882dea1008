use Rattle.std.proofs.Common.{◌∷◌, ◌++◌, [], ap, sym, subst, ◌∙◌, drop}
use Rattle.osb_tree.specs.Trees.{IsWithinLimits}
use Rattle.osb_tree.specs.Chunks.{chunk_at}
use Rattle.osb_tree.proofs.ChunkWalks.{rest_small, chunks_below-more, next_rest}
use Rattle.osb_tree.proofs.trees.Tree.all_chunks.Goals as goal

pub next_chunk-requires : goal.next_chunk-requires
next_chunk-requires c = rest_small c.args.self.now c.loop.rest _ c.loop.invariant.1 (subst IsWithinLimits c.self.view_is c.self.invariant.2).small

pub loop-preserved : goal.loop-preserved
loop-preserved c =
    let chunk = rw (c.loop.invariant.1) at c.in_ok-chunk.ensures.chunk in
    let rest = c.in_ok-chunk.ensures.rest ∙ ap (drop 256) c.loop.invariant.1 ∙ next_rest c.loop.counter c.args.self.now in
    let value = c.in_ok-new.ensures.value in
    let items = c.in_ok-push.ensures.items in
    (items ∙ ap (λ x. c.loop.chunks.items ++ x ∷ []) (value ∙ chunk) ∙ ap (λ done. done ++ chunk_at c.args.self.now c.loop.counter ∷ []) c.loop.invariant.0 ∙ sym (chunks_below-more c.loop.counter c.args.self.now), rest)
