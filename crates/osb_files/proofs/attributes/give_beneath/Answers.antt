use Rattle.std.proofs.Common.{◌≡◌, Some, inl, inr, refl, sym, ◌∙◌}
use Rattle.osb_tree.specs.Trees.{next_after}
use Rattle.osb_files.proofs.Giving.{to_come-all, to_come-none, to_come-next, to_come-fewer, from-next, next-less, next-there, last-some, last-none, IsGiven-found}
use Rattle.osb_files.proofs.attributes.give_beneath.Goals as goal

pub loop-after-init : goal.loop-after-init
loop-after-init c = rw c.in_ok-after.ensures.cases (c.requires, inl refl, to_come-all c.args.path.now c.args.given.now c.args.tree.now)

pub returns-then-not-is_beneath : goal.returns-then-not-is_beneath
returns-then-not-is_beneath c =
    let is : next_after c.loop-after.tree c.loop-after.after ≡ Some c.in-Some.next = sym c.in_ok-next.ensures.next ∙ c.in-Some.is in
    let last = last-some c.args.path.now _ c.in-Some.next is (sym c.if-not-is_beneath.ensures.beneath) in
    record { ok = sym (to_come-none c.loop-after.tree c.args.path.now c.loop-after.after c.args.given.now c.loop-after.invariant.0 c.loop-after.invariant.1 last) ∙ c.loop-after.invariant.2 }

pub give_at-requires : goal.give_at-requires
give_at-requires c =
    next-there c.loop-after.tree c.args.path.now c.loop-after.after c.in-Some.next c.loop-after.invariant.0 (sym c.in_ok-next.ensures.next ∙ c.in-Some.is)

pub loop-after-smaller : goal.loop-after-smaller
loop-after-smaller c =
    let is : next_after c.loop-after.tree c.loop-after.after ≡ Some c.in-Some.next = sym c.in_ok-next.ensures.next ∙ c.in-Some.is in
    let there = next-there c.loop-after.tree c.args.path.now c.loop-after.after c.in-Some.next c.loop-after.invariant.0 is in
    let given = IsGiven-found c.loop-after.tree c.in-Some.next c.args.given.now c.give_at.new.tree there c.in_ok-give_at.ensures.ok in
    rw given.is (to_come-fewer c.loop-after.tree c.args.path.now c.loop-after.after c.in-Some.next c.args.given.now given.node c.loop-after.invariant.0 is given.found)

pub loop-after-preserved : goal.loop-after-preserved
loop-after-preserved c =
    let is : next_after c.loop-after.tree c.loop-after.after ≡ Some c.in-Some.next = sym c.in_ok-next.ensures.next ∙ c.in-Some.is in
    let there = next-there c.loop-after.tree c.args.path.now c.loop-after.after c.in-Some.next c.loop-after.invariant.0 is in
    let less = next-less c.loop-after.tree c.args.path.now c.loop-after.after c.in-Some.next c.loop-after.invariant.0 is in
    let given = IsGiven-found c.loop-after.tree c.in-Some.next c.args.given.now c.give_at.new.tree there c.in_ok-give_at.ensures.ok in
    let next = to_come-next c.loop-after.tree c.args.path.now c.loop-after.after c.in-Some.next c.loop-after.invariant.0 is c.args.given.now given.node (sym c.if-not-is_beneath.ensures.beneath) given.found in
    (c.in_ok-give_at.ensures.tree.1, inr (from-next c.args.path.now c.loop-after.after c.in-Some.next c.loop-after.invariant.1 less), rw given.is next ∙ c.loop-after.invariant.2)

pub returns : goal.returns
returns c =
    let last = last-none c.args.path.now _ (sym c.in_ok-next.ensures.next ∙ c.in_default.is) in
    record { ok = sym (to_come-none c.loop-after.tree c.args.path.now c.loop-after.after c.args.given.now c.loop-after.invariant.0 c.loop-after.invariant.1 last) ∙ c.loop-after.invariant.2 }
