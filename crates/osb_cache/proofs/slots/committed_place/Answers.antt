use Rattle.std.proofs.Common.{sym, ◌∙◌}
use Rattle.osb_cache.specs.Caches.{has_key}
use Rattle.osb_cache.proofs.Firsts.{some_place, first-at}
use Rattle.osb_cache.proofs.slots.committed_place.Goals as goal

pub unreachable-requires : goal.unreachable-requires
unreachable-requires g c = some_place (has_key c.args.key.0) c.args.slots.now c.requires (sym c.slot_place.ensures ∙ c.in-None.is)

pub returns : goal.returns
returns g c = first-at (has_key c.args.key.0) c.args.slots.now c.in-Some.place (sym c.slot_place.ensures ∙ c.in-Some.is)
