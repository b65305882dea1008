use Rattle.std.proofs.Common.{sym, ap, subst, ◌∙◌, arith}
use Rattle.osb_job.specs.declared.actions.Action.TheVariants as actions
use Rattle.osb_state.specs.States.{State, Allows}
use Rattle.osb_machine.proofs.StagedNumbers.{any-staged}
use Rattle.osb_state.specs.States.{after}
use Rattle.osb_machine.proofs.SharedStays.{found_put, due_put, staging_put, place_put, put_after, shared_put}
use Rattle.osb_machine.proofs.shares.Shared.put.Goals as goal

pub count_put-place-requires-clause-stands : goal.count_put-place-requires-clause-stands
count_put-place-requires-clause-stands c =
    let state : State = record { cache = c.self.inside.cache; board = c.self.inside.board; marked = c.self.inside.marked; keys = c.self.inside.keys; opened = c.self.inside.opened; log = c.self.inside.log.items } in
    let allowed = subst (λ s. Allows s c.args.worker (actions.Put c.args.key c.args.chunk)) (sym c.self.view_is) c.requires in
    any-staged c.args.worker.0 c.args.key.0 state.cache.drafts allowed.draft c.self.inside.stagings.items c.self.invariant.staged (found_put state c.args.worker c.args.key c.args.chunk allowed)

pub count_put-place-requires-clause-left : goal.count_put-place-requires-clause-left
count_put-place-requires-clause-left c =
    let state : State = record { cache = c.self.inside.cache; board = c.self.inside.board; marked = c.self.inside.marked; keys = c.self.inside.keys; opened = c.self.inside.opened; log = c.self.inside.log.items } in
    let allowed = subst (λ s. Allows s c.args.worker (actions.Put c.args.key c.args.chunk)) (sym c.self.view_is) c.requires in
    staging_put state c.args.worker c.args.key c.args.chunk _ _ _ c.self.invariant allowed

pub note-requires : goal.note-requires
note-requires c =
    let state : State = record { cache = c.self.inside.cache; board = c.self.inside.board; marked = c.self.inside.marked; keys = c.self.inside.keys; opened = c.self.inside.opened; log = c.self.inside.log.items } in
    let allowed = subst (λ s. Allows s c.args.worker (actions.Put c.args.key c.args.chunk)) (sym c.self.view_is) c.requires in
    omega (arith, c.self.invariant.room, due_put state c.args.worker c.args.key c.args.chunk _ _ _ c.self.invariant allowed)

pub overflow_sub-self : goal.overflow_sub-self
overflow_sub-self c =
    let state : State = record { cache = c.self.inside.cache; board = c.self.inside.board; marked = c.self.inside.marked; keys = c.self.inside.keys; opened = c.self.inside.opened; log = c.self.inside.log.items } in
    let allowed = subst (λ s. Allows s c.args.worker (actions.Put c.args.key c.args.chunk)) (sym c.self.view_is) c.requires in
    due_put state c.args.worker c.args.key c.args.chunk _ _ _ c.self.invariant allowed

pub invariant_of-self : goal.invariant_of-self
invariant_of-self c =
    let state : State = record { cache = c.self.inside.cache; board = c.self.inside.board; marked = c.self.inside.marked; keys = c.self.inside.keys; opened = c.self.inside.opened; log = c.self.inside.log.items } in
    let allowed = subst (λ s. Allows s c.args.worker (actions.Put c.args.key c.args.chunk)) (sym c.self.view_is) c.requires in
    let place = place_put state c.args.worker c.args.key c.args.chunk _ _ _ c.count_put-place.result c.self.invariant allowed c.count_put-place.ensures.put in
    shared_put state c.args.worker c.args.key c.args.chunk c.count_put-place.result _ _ _ _ _ _ _ c.self.invariant allowed place c.put.ensures.after c.note.ensures.items c.count_put-place.ensures.items c.note.ensures.capacity

pub returns : goal.returns
returns c =
    let state : State = record { cache = c.self.inside.cache; board = c.self.inside.board; marked = c.self.inside.marked; keys = c.self.inside.keys; opened = c.self.inside.opened; log = c.self.inside.log.items } in
    let allowed = subst (λ s. Allows s c.args.worker (actions.Put c.args.key c.args.chunk)) (sym c.self.view_is) c.requires in
    let place = place_put state c.args.worker c.args.key c.args.chunk _ _ _ c.count_put-place.result c.self.invariant allowed c.count_put-place.ensures.put in
    put_after state c.args.worker c.args.key c.args.chunk c.count_put-place.result _ _ place c.put.ensures.after c.note.ensures.items ∙ ap (λ (s : State). after s c.args.worker (actions.Put c.args.key c.args.chunk)) c.self.view_is
