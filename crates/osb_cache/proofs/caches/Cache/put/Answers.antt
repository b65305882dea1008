use Rattle.std.proofs.Common.{sym, subst}
use Rattle.osb_cache.specs.Caches.{CacheState, CanPut}
use Rattle.osb_cache.proofs.Kept.{kept_put}
use Rattle.osb_cache.proofs.caches.Cache.put.Goals as goal

pub invariant_of-self : goal.invariant_of-self
invariant_of-self g c =
    let can = subst (λ (s : CacheState g.row.C.Denot). CanPut g.C.Weighed.weight_of s c.args.ticket.worker.0 c.args.ticket.key.0 c.args.chunk) (sym c.self.view_is) c.requires.can_put in
    kept_put g.C.Weighed.weight_of c.self.inside.limit c.self.inside.clock c.self.inside.slots.items c.self.inside.stages.items c.put_chunk.new.stages.items c.self.inside.counted _ c.args.ticket.worker.0 c.args.ticket.key.0 c.args.chunk c.self.invariant can c.put_chunk.ensures
