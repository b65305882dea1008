use Rattle.std.proofs.Common.{length, ap, arith}
use Rattle.osb_cache.proofs.Lookups.{chunks_read, committed_by_chunks}
use Rattle.osb_cache.proofs.slots.chunk_of.Goals as goal

pub committed_place-place-requires : goal.committed_place-place-requires
committed_place-place-requires g c = committed_by_chunks c.args.key.0 c.args.i c.args.slots.now c.requires

pub chunk-requires : goal.chunk-requires
chunk-requires g c =
    omega (arith, c.requires, ap length (chunks_read c.args.key.0 c.args.slots.now c.committed_place-place.result c.index-slots-place.result c.committed_place-place.ensures c.index-slots-place.is))

pub returns : goal.returns
returns g c =
    rw (chunks_read c.args.key.0 c.args.slots.now c.committed_place-place.result c.index-slots-place.result c.committed_place-place.ensures c.index-slots-place.is) c.chunk.ensures
