use Rattle.std.proofs.Common.{arith}
use Rattle.osb_cache.specs.Caches.{is_draft}
use Rattle.osb_cache.proofs.Kept.{kept_drop, held_drop}
use Rattle.osb_cache.proofs.caches.Cache.drop_ticket.Goals as goal

pub overflow_sub-self : goal.overflow_sub-self
overflow_sub-self g c =
    omega (arith, c.size.ensures, held_drop g.C.Weighed.weight_of c.self.inside.limit c.self.inside.clock c.self.inside.slots.items c.self.inside.stages.items c.self.inside.counted _ (is_draft c.args.ticket.worker.0 c.args.ticket.key.0) c.take_stage-stage.result c.self.invariant c.take_stage-stage.ensures.taken)

pub invariant_of-self : goal.invariant_of-self
invariant_of-self g c =
    rw c.size.ensures (kept_drop g.C.Weighed.weight_of c.self.inside.limit c.self.inside.clock c.self.inside.slots.items c.self.inside.stages.items c.take_stage-stage.new.stages.items c.self.inside.counted _ c.args.ticket.worker.0 c.args.ticket.key.0 c.take_stage-stage.result c.self.invariant c.take_stage-stage.ensures.taken c.take_stage-stage.ensures.items)
