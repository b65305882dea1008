use Rattle.std.proofs.Common.{List, subst, arith}
use Rattle.osb_cache.specs.Edits.{IsFirst}
use Rattle.osb_cache.specs.Caches.{Line, has_key, unpinned}
use Rattle.osb_cache.proofs.Firsts.{updated_at}
use Rattle.osb_cache.proofs.Lookups.{committed_pinned, found_read, pins_found}
use Rattle.osb_cache.proofs.slots.unpin_slot.Goals as goal

pub committed_place-place-requires : goal.committed_place-place-requires
committed_place-place-requires g c =
    rw c.deref.ensures.value (committed_pinned c.args.pin.worker.0 c.args.pin.key.0 c.args.slots.now.items c.requires.stands)

pub unpin-requires : goal.unpin-requires
unpin-requires g c =
    let first = subst (λ (xs : List (Line g.row.C.Denot)). IsFirst (has_key c.args.pin.key.0) xs c.committed_place-place.result) c.deref.ensures.value c.committed_place-place.ensures in
    omega (arith, c.requires.stands, pins_found c.args.pin.worker.0 c.args.pin.key.0 c.args.slots.now.items c.index_mut-slot.result.now c.requires.apart (found_read (has_key c.args.pin.key.0) c.args.slots.now.items c.committed_place-place.result c.index_mut-slot.result.now first c.index_mut-slot.ensures.value))

pub returns-clause-items : goal.returns-clause-items
returns-clause-items g c =
    let first = subst (λ (xs : List (Line g.row.C.Denot)). IsFirst (has_key c.args.pin.key.0) xs c.committed_place-place.result) c.deref.ensures.value c.committed_place-place.ensures in
    updated_at (has_key c.args.pin.key.0) (unpinned c.args.pin.worker.0) c.args.slots.now.items c.committed_place-place.result c.unpin.new.self c.index_mut-slot.result.now first (rw (← c.index_mut-slot.ensures.value) c.unpin.ensures)
