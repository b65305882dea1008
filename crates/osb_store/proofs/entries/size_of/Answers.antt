use Rattle.std.proofs.Common.{arith}
use Rattle.osb_store.proofs.Sizes.{size_so_far, size_with}
use Rattle.osb_store.proofs.entries.size_of.Goals as goal

pub overflow_add-size : goal.overflow_add-size
overflow_add-size c =
    omega (arith, size_with c.args.entry.now.chunks c.as_slice-chunk-items.result.now c.as_slice-chunk-items.ensures.items c.requires c.loop-chunk.chunk-index c.loop-chunk.size c.weight-size.result c.chunk-item.result c.get.result.now c.loop-chunk.invariant c.loop-chunk-test.true c.chunk-item.is c.get.ensures.value c.weight-size.ensures.weight)

pub returns-clause-small : goal.returns-clause-small
returns-clause-small c =
    size_so_far c.args.entry.now.chunks c.as_slice-chunk-items.result.now c.as_slice-chunk-items.ensures.items c.requires c.loop-chunk.chunk-index c.loop-chunk.size c.loop-chunk.invariant
