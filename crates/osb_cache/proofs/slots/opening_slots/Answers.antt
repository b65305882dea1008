use Rattle.std.proofs.Common.{List, [], ◌∷◌, ◌++◌, ◌+◌, sym, ap, ◌∙◌, arith, length-append}
use Rattle.osb_cache.specs.Caches.{Line}
use Rattle.osb_cache.proofs.Openings.{opening_lines-push}
use Rattle.osb_cache.proofs.slots.opening_slots.Goals as goal

pub loop-stored-preserved : goal.loop-stored-preserved
loop-stored-preserved g c =
    let slot = c.opening_slot-slot.result in (
      c.in_ok-push.ensures.items ∙ ap (λ (xs : List (Line g.row.C.Denot)). xs ++ c.opening_slot-slot.result ∷ []) c.loop-stored.invariant.0 ∙ rw c.opening_slot-slot.ensures (sym (opening_lines-push g.C.Weighed.weight_of 1 (c.loop-stored.used + 1) c.loop-stored.yielded c.in-Some.stored (omega (arith, c.loop-stored.invariant.1)))),
      simp length-append (omega (arith, c.loop-stored.invariant.1)),
    )
