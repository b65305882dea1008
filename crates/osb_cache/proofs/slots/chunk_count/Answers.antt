use Rattle.std.proofs.Common.{length, sym, ap, ◌∙◌}
use Rattle.osb_cache.specs.Caches.{has_key}
use Rattle.osb_cache.proofs.Firsts.{first-at, none_found}
use Rattle.osb_cache.proofs.Lookups.{found_read, chunks_found, chunks_none}
use Rattle.osb_cache.proofs.slots.chunk_count.Goals as goal

pub returns-in-Some : goal.returns-in-Some
returns-in-Some g c =
    let first = first-at (has_key c.args.key.0) c.args.slots.now c.in-Some.place (sym c.slot_place.ensures ∙ c.in-Some.is) in
    let slot = c.index-slots-place.result in
    c.chunk_count.ensures ∙ sym (ap length (chunks_found c.args.key.0 c.args.slots.now slot (found_read (has_key c.args.key.0) c.args.slots.now c.in-Some.place slot first c.index-slots-place.is)))

pub returns-in-None : goal.returns-in-None
returns-in-None g c =
    sym (ap length (chunks_none c.args.key.0 c.args.slots.now (none_found (has_key c.args.key.0) c.args.slots.now (sym c.slot_place.ensures ∙ c.in-None.is))))
