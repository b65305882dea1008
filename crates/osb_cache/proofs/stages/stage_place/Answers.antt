use Rattle.std.proofs.Common.{sym, ◌∙◌}
use Rattle.osb_cache.specs.Caches.{is_draft}
use Rattle.osb_cache.proofs.Firsts.{some_place, first-at}
use Rattle.osb_cache.proofs.stages.stage_place.Goals as goal

pub unreachable-requires : goal.unreachable-requires
unreachable-requires g c =
    some_place (is_draft c.args.ticket.worker.0 c.args.ticket.key.0) c.args.stages.now c.requires (sym c.found_place.ensures ∙ c.in-None.is)

pub returns : goal.returns
returns g c =
    first-at (is_draft c.args.ticket.worker.0 c.args.ticket.key.0) c.args.stages.now c.in-Some.place (sym c.found_place.ensures ∙ c.in-Some.is)
