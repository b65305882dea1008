use Rattle.std.proofs.Common.{[], ◌∷◌, ◌++◌, sym, ap, subst, ◌∙◌, arith}
use Rattle.osb_cache.specs.Caches.{Line, CacheState, CanCommit, IsWhole, is_draft}
use Rattle.osb_cache.proofs.Lookups.{some_any}
use Rattle.osb_cache.proofs.Lists.{length-remove_first}
use Rattle.osb_cache.proofs.Kept.{kept_commit}
use Rattle.osb_cache.proofs.caches.Cache.commit.Goals as goal

pub take_stage-stage-requires : goal.take_stage-stage-requires
take_stage-stage-requires g c =
    let can = subst (λ (s : CacheState g.row.C.Denot). CanCommit g.C.Weighed.weight_of s c.args.ticket.worker.0 c.args.ticket.key.0) (sym c.self.view_is) c.requires.can_commit in
    some_any (is_draft c.args.ticket.worker.0 c.args.ticket.key.0) (IsWhole g.C.Weighed.weight_of) c.self.inside.stages.items can

pub push_reserved-requires : goal.push_reserved-requires
push_reserved-requires g c =
    omega (arith, c.self.invariant.places, c.self.inside.slots.ok.0, length-remove_first (is_draft c.args.ticket.worker.0 c.args.ticket.key.0) c.self.inside.stages.items c.take_stage-stage.result c.take_stage-stage.ensures.taken)

pub invariant_of-self : goal.invariant_of-self
invariant_of-self g c =
    let can = subst (λ (s : CacheState g.row.C.Denot). CanCommit g.C.Weighed.weight_of s c.args.ticket.worker.0 c.args.ticket.key.0) (sym c.self.view_is) c.requires.can_commit in
    rw c.push_reserved.ensures.capacity (kept_commit g.C.Weighed.weight_of c.self.inside.limit c.self.inside.clock c.self.inside.slots.items c.push_reserved.new.self.items c.self.inside.stages.items c.take_stage-stage.new.stages.items c.self.inside.counted _ c.args.ticket.worker.0 c.args.ticket.key.0 c.take_stage-stage.result c.self.invariant can c.take_stage-stage.ensures.taken (c.push_reserved.ensures.items ∙ ap (λ (line : Line g.row.C.Denot). c.self.inside.slots.items ++ line ∷ []) c.into_slot.ensures) c.take_stage-stage.ensures.items)
