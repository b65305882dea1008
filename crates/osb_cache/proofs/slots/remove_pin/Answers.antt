use Rattle.std.proofs.Common.{◌==◌, position, count_by, sym, ap, ◌∙◌, arith}
use Rattle.osb_cache.proofs.Firsts.{first-at, none_found, removed_at}
use Rattle.osb_cache.proofs.Sums.{sum_none}
use Rattle.osb_cache.proofs.slots.remove_pin.Goals as goal

pub unreachable-requires : goal.unreachable-requires
unreachable-requires c =
    let none = none_found (λ pin. pin == c.args.worker) c.deref.result.now (sym c.pin_place.ensures ∙ c.in-None.is) in
    omega (arith, c.requires, sum_none (λ _. 1) (λ pin. pin == c.args.worker) c.deref.result.now none, ap (count_by (λ pin. pin == c.args.worker)) c.deref.ensures.value)

pub returns : goal.returns
returns c =
    let found = ap (position (λ pin. pin == c.args.worker)) (sym c.deref.ensures.value) ∙ sym c.pin_place.ensures ∙ c.in-Some.is in
    c.remove.ensures.items ∙ removed_at (λ pin. pin == c.args.worker) c.args.pins.now.items c.in-Some.place (first-at (λ pin. pin == c.args.worker) c.args.pins.now.items c.in-Some.place found)
