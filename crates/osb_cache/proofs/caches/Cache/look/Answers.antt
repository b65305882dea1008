use Rattle.std.proofs.Common.{get_or, sym, ◌∙◌}
use Rattle.osb_cache.proofs.Kept.{kept_touch}
use Rattle.osb_cache.proofs.Lookups.{hit_committed}
use Rattle.osb_cache.proofs.caches.Cache.look.Goals as goal

pub touch_slot-requires : goal.touch_slot-requires
touch_slot-requires g c =
    hit_committed c.self.inside.slots.items c.deref.result.now c.args.keys.now c.in-Some.place c.deref.ensures.value (sym c.hit_place.ensures ∙ c.in-Some.is)

pub invariant_of-self-2 : goal.invariant_of-self-2
invariant_of-self-2 g c =
    let committed = hit_committed c.self.inside.slots.items c.deref.result.now c.args.keys.now c.in-Some.place c.deref.ensures.value (sym c.hit_place.ensures ∙ c.in-Some.is) in
    kept_touch g.C.Weighed.weight_of c.self.inside.limit c.self.inside.clock c.self.inside.slots.items c.touch_slot.new.slots.items c.self.inside.stages.items c.self.inside.counted _ _ c.args.worker.0 (get_or c.args.keys.now c.in-Some.place (record { 0 = 0 })).0 c.self.invariant committed c.in_ok-touch_slot.ensures.capacity c.in_ok-touch_slot.ensures.ok
