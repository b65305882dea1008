use Rattle.std.proofs.Common.{[], refl, arith}
use Rattle.osb_store.specs.Lists.{items_at, is_blob}
use Rattle.osb_store.specs.Reading.{field_at}
use Rattle.osb_store.proofs.Turns.{turned}
use Rattle.osb_store.proofs.lists.read_blobs.Goals as goal

pub loop-i-preserved : goal.loop-i-preserved
loop-i-preserved c =
    turned field_at is_blob c.args.count c.loop-i.i 1 c.loop-i.blobs _ c.in_ok-blobs-in-Ok.blobs c.loop-i.rest.now (items_at field_at is_blob c.args.count 1 [] c.args.bytes.now) (c.in-Ok.blob.now, c.in-Ok.behind.now) refl c.in_ok-blobs-in-Ok.ensures c.loop-i.invariant.0 (omega arith) c.loop-i.invariant.1 c.in-Ok.ensures
