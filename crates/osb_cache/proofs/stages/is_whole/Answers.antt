use Rattle.std.proofs.Common.{sym, ◌∙◌}
use Rattle.osb_cache.specs.Caches.{is_draft, IsWhole}
use Rattle.osb_cache.proofs.Firsts.{first-at, none_found}
use Rattle.osb_cache.proofs.Lookups.{found_read, some_tested, none_tested}
use Rattle.osb_cache.proofs.stages.is_whole.Goals as goal

pub returns-in-Some : goal.returns-in-Some
returns-in-Some g c =
    let first = first-at (is_draft c.args.ticket.worker.0 c.args.ticket.key.0) c.args.stages.now c.in-Some.place (sym c.found_place.ensures ∙ c.in-Some.is) in
    some_tested _ c.index-stages-place.result (IsWhole g.C.Weighed.weight_of) _ (found_read (is_draft c.args.ticket.worker.0 c.args.ticket.key.0) c.args.stages.now c.in-Some.place c.index-stages-place.result first c.index-stages-place.is) c.is_whole.ensures

pub returns-in-None : goal.returns-in-None
returns-in-None g c =
    none_tested _ (IsWhole g.C.Weighed.weight_of) (none_found (is_draft c.args.ticket.worker.0 c.args.ticket.key.0) c.args.stages.now (sym c.found_place.ensures ∙ c.in-None.is))
