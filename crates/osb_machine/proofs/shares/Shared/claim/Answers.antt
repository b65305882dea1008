use Rattle.std.proofs.Common.{◌≡◌, ◌+◌, ◌≤◌, ◌++◌, ◌∷◌, [], List, length, sym, ap, subst, ◌∙◌, arith}
use Rattle.std.specs.Vec.{vec_capacity}
use Rattle.osb_job.specs.declared.actions.Action.TheVariants as actions
use Rattle.osb_job.specs.declared.entries.Event.TheVariants as events
use Rattle.osb_job.specs.declared.entries.Entry.{Entry}
use Rattle.osb_state.specs.States.{State, Allows}
use Rattle.osb_machine.proofs.Conditions.{may_claim}
use Rattle.osb_machine.proofs.SharedStays.{shared_claimed, shared_over}
use Rattle.osb_machine.proofs.shares.Shared.claim.Goals as goal

pub claim-claim-requires : goal.claim-claim-requires
claim-claim-requires c =
    let state : State = record { cache = c.self.inside.cache; board = c.self.inside.board; marked = c.self.inside.marked; keys = c.self.inside.keys; opened = c.self.inside.opened; log = c.self.inside.log.items } in
    let allowed = subst (λ s. Allows s c.args.worker (actions.Claim)) (sym c.self.view_is) c.requires in
    record { free = may_claim state c.args.worker c.self.invariant.valid allowed }

pub invariant_of-self-in-Task : goal.invariant_of-self-in-Task
invariant_of-self-in-Task c =
    let state : State = record { cache = c.self.inside.cache; board = c.self.inside.board; marked = c.self.inside.marked; keys = c.self.inside.keys; opened = c.self.inside.opened; log = c.self.inside.log.items } in
    let allowed = subst (λ s. Allows s c.args.worker (actions.Claim)) (sym c.self.view_is) c.requires in
    let room : length c.self.inside.log.items + c.self.inside.due + 2 ≤ vec_capacity c.spare.new.log = c.in_ok-spare.ensures.ok in
    let log : c.note.new.log.items ≡ state.log ++ record { worker = c.args.worker; event = events.Claim c.in-Task.task } ∷ [] = c.note.ensures.items ∙ ap (λ (xs : List Entry). xs ++ record { worker = c.args.worker; event = events.Claim c.in-Task.task } ∷ []) c.spare.ensures.items in
    shared_claimed state c.args.worker c.in-Task.task _ _ _ _ _ _ c.self.invariant allowed (sym c.claim-claim.ensures.answer ∙ c.in-Task.is) c.claim-claim.ensures.after log (omega (arith, room, c.note.ensures.capacity))

pub invariant_of-self-in-Over : goal.invariant_of-self-in-Over
invariant_of-self-in-Over c =
    let state : State = record { cache = c.self.inside.cache; board = c.self.inside.board; marked = c.self.inside.marked; keys = c.self.inside.keys; opened = c.self.inside.opened; log = c.self.inside.log.items } in
    let allowed = subst (λ s. Allows s c.args.worker (actions.Claim)) (sym c.self.view_is) c.requires in
    let room : length c.self.inside.log.items + c.self.inside.due + 2 ≤ vec_capacity c.spare.new.log = c.in_ok-spare.ensures.ok in
    let log : c.note-in-Over.new.log.items ≡ state.log ++ record { worker = c.args.worker; event = events.Over } ∷ [] = c.note-in-Over.ensures.items ∙ ap (λ (xs : List Entry). xs ++ record { worker = c.args.worker; event = events.Over } ∷ []) c.spare.ensures.items in
    shared_over state c.args.worker _ _ _ _ _ _ c.self.invariant allowed (sym c.claim-claim.ensures.answer ∙ c.in-Over.is) c.claim-claim.ensures.after log (omega (arith, room, c.note-in-Over.ensures.capacity))
