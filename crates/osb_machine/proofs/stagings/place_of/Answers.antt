use Rattle.std.proofs.Common.{sym, ◌∙◌}
use Rattle.osb_machine.specs.Owed.{is_staging}
use Rattle.osb_cache.proofs.Firsts.{first-at, some_place}
use Rattle.osb_machine.proofs.stagings.place_of.Goals as goal

pub unreachable-requires : goal.unreachable-requires
unreachable-requires c =
    some_place (is_staging c.args.worker.0 c.args.key.0) c.args.stagings.now c.requires (sym c.found_place.ensures ∙ c.in-None.is)

pub returns : goal.returns
returns c =
    first-at (is_staging c.args.worker.0 c.args.key.0) c.args.stagings.now c.in-Some.place (sym c.found_place.ensures ∙ c.in-Some.is)
