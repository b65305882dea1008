use Rattle.std.proofs.Common.{ap, subst, sym, ◌∙◌, refl, arith}
use Rattle.osb_evict.specs.Victims.{IsFull, pinned_sizes as pinned_weights}
use Rattle.osb_cache.proofs.Evicts.{pinned_weights-weighted, taken_leave}
use Rattle.osb_cache.proofs.Rises.{apart_weighted}
use Rattle.osb_cache.proofs.evictions.leaving.Goals as goal

pub victims-requires-clause-apart : goal.victims-requires-clause-apart
victims-requires-clause-apart g c =
    λ used. rw (c.deref.ensures.value ∙ c.in_ok-lines.ensures) (apart_weighted 0 c.requires.rising.0 c.args.slots.now c.requires.rising.1 used)

pub returns-in-Full-clause-full : goal.returns-in-Full-clause-full
returns-in-Full-clause-full g c =
    let pinned = ap pinned_weights (c.deref.ensures.value ∙ c.in_ok-lines.ensures) ∙ pinned_weights-weighted c.args.slots.now in
    (λ _. omega (arith, pinned, c.in_ok-victims.ensures.full.0 (subst IsFull (sym c.in-Full.is) tt)), λ _. refl)

pub returns-clause-full : goal.returns-clause-full
returns-clause-full g c =
    let pinned = ap pinned_weights (c.deref.ensures.value ∙ c.in_ok-lines.ensures) ∙ pinned_weights-weighted c.args.slots.now in
    (λ e. cc, λ h. absurd (subst IsFull c.in-Take.is (c.in_ok-victims.ensures.full.1 (omega (arith, pinned, h)))))

pub returns-clause-left : goal.returns-clause-left
returns-clause-left g c =
    taken_leave c.args.slots.now c.deref.result.now c.requires.rising.0 c.args.held c.args.need c.args.limit c.in-Take.keys c.in_ok-victims.field-0 (c.deref.ensures.value ∙ c.in_ok-lines.ensures) c.requires.rising.1 c.requires.apart c.in-Take.is c.in_ok-victims.ensures.taken
