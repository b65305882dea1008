use Rattle.std.proofs.Common.{◌++◌, ◌∷◌, [], sym, ap, subst, ◌∙◌, arith}
use Rattle.osb_job.specs.declared.actions.Action.TheVariants as actions
use Rattle.osb_job.specs.declared.entries.Event.TheVariants as events
use Rattle.osb_state.specs.States.{State, Allows}
use Rattle.osb_job.specs.Scripts.{free}
use Rattle.osb_machine.proofs.Conditions.{runs_task}
use Rattle.osb_machine.proofs.SharedStays.{due_done, shared_done}
use Rattle.osb_machine.proofs.shares.Shared.done.Goals as goal

pub done-requires : goal.done-requires
done-requires c =
    let state : State = record { cache = c.self.inside.cache; board = c.self.inside.board; marked = c.self.inside.marked; keys = c.self.inside.keys; opened = c.self.inside.opened; log = c.self.inside.log.items } in
    let allowed = subst (λ s. Allows s c.args.worker (actions.Done c.args.task c.args.outcome)) (sym c.self.view_is) c.requires in
    record { runs = runs_task state c.args.worker c.args.task free c.self.invariant.valid allowed }

pub note-requires : goal.note-requires
note-requires c =
    let state : State = record { cache = c.self.inside.cache; board = c.self.inside.board; marked = c.self.inside.marked; keys = c.self.inside.keys; opened = c.self.inside.opened; log = c.self.inside.log.items } in
    let allowed = subst (λ s. Allows s c.args.worker (actions.Done c.args.task c.args.outcome)) (sym c.self.view_is) c.requires in
    omega (arith, c.self.invariant.room, due_done state c.args.worker c.args.task c.args.outcome _ _ _ c.self.invariant allowed)

pub overflow_sub-self : goal.overflow_sub-self
overflow_sub-self c =
    let state : State = record { cache = c.self.inside.cache; board = c.self.inside.board; marked = c.self.inside.marked; keys = c.self.inside.keys; opened = c.self.inside.opened; log = c.self.inside.log.items } in
    let allowed = subst (λ s. Allows s c.args.worker (actions.Done c.args.task c.args.outcome)) (sym c.self.view_is) c.requires in
    due_done state c.args.worker c.args.task c.args.outcome _ _ _ c.self.invariant allowed

pub invariant_of-self : goal.invariant_of-self
invariant_of-self c =
    let state : State = record { cache = c.self.inside.cache; board = c.self.inside.board; marked = c.self.inside.marked; keys = c.self.inside.keys; opened = c.self.inside.opened; log = c.self.inside.log.items } in
    let allowed = subst (λ s. Allows s c.args.worker (actions.Done c.args.task c.args.outcome)) (sym c.self.view_is) c.requires in
    let words = ap (λ word. state.log ++ record { worker = c.args.worker; event = events.Done c.args.task word } ∷ []) c.word_of-word.ensures.word in
    shared_done state c.args.worker c.args.task c.args.outcome _ _ _ _ _ _ c.self.invariant allowed c.done.ensures.after (c.note.ensures.items ∙ words) c.note.ensures.capacity
