use Rattle.std.proofs.Common.{sym, subst, arith}
use Rattle.osb_job.specs.declared.actions.Action.TheVariants as actions
use Rattle.osb_state.specs.States.{State, Allows}
use Rattle.osb_machine.proofs.Conditions.{may_drop}
use Rattle.osb_machine.proofs.SharedStays.{due_drop, staged_drop, some_due, shared_drop}
use Rattle.osb_machine.proofs.shares.Shared.give_up.Goals as goal

pub drop_ticket-requires : goal.drop_ticket-requires
drop_ticket-requires c =
    let state : State = record { cache = c.self.inside.cache; board = c.self.inside.board; marked = c.self.inside.marked; keys = c.self.inside.keys; opened = c.self.inside.opened; log = c.self.inside.log.items } in
    let allowed = subst (λ s. Allows s c.args.worker (actions.Drop c.args.key)) (sym c.self.view_is) c.requires in
    record { stands = may_drop state c.args.worker c.args.key c.self.invariant.valid allowed }

pub take_staging-staging-requires : goal.take_staging-staging-requires
take_staging-staging-requires c =
    let state : State = record { cache = c.self.inside.cache; board = c.self.inside.board; marked = c.self.inside.marked; keys = c.self.inside.keys; opened = c.self.inside.opened; log = c.self.inside.log.items } in
    let allowed = subst (λ s. Allows s c.args.worker (actions.Drop c.args.key)) (sym c.self.view_is) c.requires in
    record { stands = staged_drop state c.args.worker c.args.key _ _ _ c.self.invariant allowed }

pub note-requires : goal.note-requires
note-requires c =
    let state : State = record { cache = c.self.inside.cache; board = c.self.inside.board; marked = c.self.inside.marked; keys = c.self.inside.keys; opened = c.self.inside.opened; log = c.self.inside.log.items } in
    let allowed = subst (λ s. Allows s c.args.worker (actions.Drop c.args.key)) (sym c.self.view_is) c.requires in
    omega (arith, c.self.invariant.room, some_due state c.args.worker c.args.key _ _ _ c.self.invariant allowed)

pub overflow_add-self : goal.overflow_add-self
overflow_add-self c =
    let state : State = record { cache = c.self.inside.cache; board = c.self.inside.board; marked = c.self.inside.marked; keys = c.self.inside.keys; opened = c.self.inside.opened; log = c.self.inside.log.items } in
    let allowed = subst (λ s. Allows s c.args.worker (actions.Drop c.args.key)) (sym c.self.view_is) c.requires in
    let due = due_drop state c.args.worker c.args.key _ _ _ c.take_staging-staging.result c.self.invariant allowed c.take_staging-staging.ensures.taken in
    omega (arith, due)

pub overflow_sub-self : goal.overflow_sub-self
overflow_sub-self c =
    let state : State = record { cache = c.self.inside.cache; board = c.self.inside.board; marked = c.self.inside.marked; keys = c.self.inside.keys; opened = c.self.inside.opened; log = c.self.inside.log.items } in
    let allowed = subst (λ s. Allows s c.args.worker (actions.Drop c.args.key)) (sym c.self.view_is) c.requires in
    due_drop state c.args.worker c.args.key _ _ _ c.take_staging-staging.result c.self.invariant allowed c.take_staging-staging.ensures.taken

pub invariant_of-self : goal.invariant_of-self
invariant_of-self c =
    let state : State = record { cache = c.self.inside.cache; board = c.self.inside.board; marked = c.self.inside.marked; keys = c.self.inside.keys; opened = c.self.inside.opened; log = c.self.inside.log.items } in
    let allowed = subst (λ s. Allows s c.args.worker (actions.Drop c.args.key)) (sym c.self.view_is) c.requires in
    shared_drop state c.args.worker c.args.key _ _ _ _ _ c.take_staging-staging.result _ _ c.self.invariant allowed c.take_staging-staging.ensures.taken c.drop_ticket.ensures.after c.note.ensures.items c.take_staging-staging.ensures.items c.note.ensures.capacity
