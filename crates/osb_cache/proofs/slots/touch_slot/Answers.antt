use Rattle.std.proofs.Common.{List, [], ◌∷◌, ◌++◌, subst, ap, ◌∙◌}
use Rattle.osb_cache.specs.Edits.{IsFirst}
use Rattle.osb_cache.specs.Caches.{Line, has_key}
use Rattle.osb_cache.proofs.Lookups.{touched_at}
use Rattle.osb_cache.proofs.slots.touch_slot.Goals as goal

pub returns-clause-ok : goal.returns-clause-ok
returns-clause-ok g c =
    let place = c.committed_place-place.result in
    let first = subst (λ (xs : List (Line g.row.C.Denot)). IsFirst (has_key c.args.key.0) xs c.committed_place-place.result) c.deref.ensures.value c.committed_place-place.ensures in
    c.push_reserved.ensures.items ∙ ap (λ (xs : List (Line g.row.C.Denot)). xs ++ c.remove-slot.result ∷ []) c.remove-slot.ensures.items ∙ touched_at c.args.clock c.args.worker.0 c.args.key.0 c.args.slots.now.items c.committed_place-place.result c.index_mut-slot.result.now c.touch.new.self c.remove-slot.result first c.index_mut-slot.ensures.value c.in_ok-touch.ensures.ok c.remove-slot.ensures.value
