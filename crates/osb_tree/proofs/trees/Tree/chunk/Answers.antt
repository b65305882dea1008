use Rattle.std.proofs.Common.{◌≡◌, ap, subst, ◌∙◌, drop, ◌*◌, arith}
use Rattle.std.proofs.lemmas.List.{drop-drop}
use Rattle.osb_tree.specs.Trees.{IsWithinLimits}
use Rattle.osb_tree.proofs.ChunkWalks.{one_dropped, rest_small}
use Rattle.osb_tree.proofs.trees.Tree.chunk.Goals as goal

pub loop-preserved : goal.loop-preserved
loop-preserved c =
    one_dropped c.loop.rest c.next.new.self c.next.result c.next.ensures.steps ∙ ap (drop 1) c.loop.invariant ∙ drop-drop 1 c.loop.counter c.args.self.now

pub next_chunk-requires : goal.next_chunk-requires
next_chunk-requires c = rest_small c.args.self.now c.loop.rest _ c.loop.invariant (subst IsWithinLimits c.self.view_is c.self.invariant.2).small

pub returns : goal.returns
returns c =
    let at : c.loop.counter ≡ 256 * c.args.i = omega arith in
    record { chunk = rw (c.loop.invariant, at) at c.next_chunk.ensures.chunk }
