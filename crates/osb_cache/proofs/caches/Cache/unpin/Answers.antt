use Rattle.std.proofs.Common.{arith}
use Rattle.osb_cache.proofs.Kept.{kept_unpin}
use Rattle.osb_cache.proofs.caches.Cache.unpin.Goals as goal

pub unpin_slot-requires-clause-apart : goal.unpin_slot-requires-clause-apart
unpin_slot-requires-clause-apart g c = omega (arith, c.self.invariant.sound.apart c.args.pin.key.0)

pub invariant_of-self : goal.invariant_of-self
invariant_of-self g c =
    let s = c.self.inside in
    kept_unpin g.C.Weighed.weight_of c.self.inside.limit c.self.inside.clock c.self.inside.slots.items c.unpin_slot.new.slots.items c.self.inside.stages.items c.self.inside.counted _ _ c.args.pin.worker.0 c.args.pin.key.0 c.self.invariant c.unpin_slot.ensures.capacity c.unpin_slot.ensures.items
