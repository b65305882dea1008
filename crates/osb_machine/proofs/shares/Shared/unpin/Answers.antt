use Rattle.std.proofs.Common.{sym, subst, arith}
use Rattle.osb_job.specs.declared.actions.Action.TheVariants as actions
use Rattle.osb_state.specs.States.{State, Allows}
use Rattle.osb_machine.proofs.SharedStays.{due_unpin, shared_unpinned}
use Rattle.osb_machine.proofs.shares.Shared.unpin.Goals as goal

pub note-requires : goal.note-requires
note-requires c =
    let state : State = record { cache = c.self.inside.cache; board = c.self.inside.board; marked = c.self.inside.marked; keys = c.self.inside.keys; opened = c.self.inside.opened; log = c.self.inside.log.items } in
    let allowed = subst (λ s. Allows s c.args.worker (actions.Unpin c.args.key)) (sym c.self.view_is) c.requires in
    omega (arith, c.self.invariant.room, due_unpin state c.args.worker c.args.key _ _ _ c.self.invariant allowed)

pub overflow_sub-self : goal.overflow_sub-self
overflow_sub-self c =
    let state : State = record { cache = c.self.inside.cache; board = c.self.inside.board; marked = c.self.inside.marked; keys = c.self.inside.keys; opened = c.self.inside.opened; log = c.self.inside.log.items } in
    let allowed = subst (λ s. Allows s c.args.worker (actions.Unpin c.args.key)) (sym c.self.view_is) c.requires in
    due_unpin state c.args.worker c.args.key _ _ _ c.self.invariant allowed

pub invariant_of-self : goal.invariant_of-self
invariant_of-self c =
    let state : State = record { cache = c.self.inside.cache; board = c.self.inside.board; marked = c.self.inside.marked; keys = c.self.inside.keys; opened = c.self.inside.opened; log = c.self.inside.log.items } in
    let allowed = subst (λ s. Allows s c.args.worker (actions.Unpin c.args.key)) (sym c.self.view_is) c.requires in
    shared_unpinned state c.args.worker c.args.key _ _ _ _ _ _ c.self.invariant allowed c.unpin.ensures.after c.note.ensures.items c.note.ensures.capacity
