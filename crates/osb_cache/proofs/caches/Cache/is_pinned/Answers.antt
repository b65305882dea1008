use Rattle.std.proofs.Common.{arith}
use Rattle.osb_cache.proofs.caches.Cache.is_pinned.Goals as goal

pub pin_count-requires : goal.pin_count-requires
pin_count-requires g c = rw c.deref.ensures.value (omega (arith, c.self.invariant.sound.apart c.args.pin.key.0))
