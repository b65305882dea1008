use Rattle.std.proofs.Common.{List, subst, ◌∙◌}
use Rattle.osb_cache.specs.Edits.{IsFirst}
use Rattle.osb_cache.specs.Caches.{Draft, is_draft}
use Rattle.osb_cache.proofs.Firsts.{removed_at}
use Rattle.osb_cache.proofs.Lookups.{found_read}
use Rattle.osb_cache.proofs.stages.take_stage.Goals as goal

pub returns-clause-taken : goal.returns-clause-taken
returns-clause-taken g c =
    let first = subst (λ (xs : List (Draft g.row.C.Denot)). IsFirst (is_draft c.args.ticket.worker.0 c.args.ticket.key.0) xs c.stage_place-place.result) c.deref.ensures.value c.stage_place-place.ensures in
    found_read (is_draft c.args.ticket.worker.0 c.args.ticket.key.0) c.args.stages.now.items c.stage_place-place.result c.remove.result first c.remove.ensures.value

pub returns-clause-items : goal.returns-clause-items
returns-clause-items g c =
    let first = subst (λ (xs : List (Draft g.row.C.Denot)). IsFirst (is_draft c.args.ticket.worker.0 c.args.ticket.key.0) xs c.stage_place-place.result) c.deref.ensures.value c.stage_place-place.ensures in
    c.remove.ensures.items ∙ removed_at (is_draft c.args.ticket.worker.0 c.args.ticket.key.0) c.args.stages.now.items c.stage_place-place.result first
