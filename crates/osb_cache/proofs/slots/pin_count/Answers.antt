use Rattle.std.proofs.Common.{sym, ◌∙◌}
use Rattle.osb_cache.specs.Caches.{has_key}
use Rattle.osb_cache.proofs.Firsts.{first-at, none_found}
use Rattle.osb_cache.proofs.Lookups.{found_read, pins_found, pins_none}
use Rattle.osb_cache.proofs.slots.pin_count.Goals as goal

pub returns-in-Some : goal.returns-in-Some
returns-in-Some g c =
    let key = c.args.pin.key.0 in
    let first = first-at (has_key key) c.args.slots.now c.in-Some.place (sym c.slot_place.ensures ∙ c.in-Some.is) in
    let slot = c.index-slots-place.result in
    c.pin_count.ensures ∙ sym (pins_found c.args.pin.worker.0 key c.args.slots.now slot c.requires (found_read (has_key key) c.args.slots.now c.in-Some.place slot first c.index-slots-place.is))

pub returns-in-None : goal.returns-in-None
returns-in-None g c =
    sym (pins_none c.args.pin.worker.0 c.args.pin.key.0 c.args.slots.now (none_found (has_key c.args.pin.key.0) c.args.slots.now (sym c.slot_place.ensures ∙ c.in-None.is)))
