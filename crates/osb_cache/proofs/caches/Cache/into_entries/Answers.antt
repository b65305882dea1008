use Rattle.std.proofs.Common.{map}
use Rattle.osb_cache.specs.Caches.{stored_of}
use Rattle.osb_cache.specs.Parts.{state_of}
use Rattle.osb_cache.proofs.Kept.{can_reopen, all_reopen}
use Rattle.osb_cache.proofs.caches.Cache.into_entries.Goals as goal

pub returns-clause-can_open : goal.returns-clause-can_open
returns-clause-can_open g c =
    all_reopen g.C.Weighed.weight_of c.stored_of.result (λ v. v.items) (map stored_of c.self.inside.slots.items) c.stored_of.ensures
    (can_reopen g.C.Weighed.weight_of (state_of c.self.inside.limit c.self.inside.clock c.self.inside.slots.items c.self.inside.stages.items) c.self.invariant.sound)
