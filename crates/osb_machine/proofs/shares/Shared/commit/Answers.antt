use Rattle.std.proofs.Common.{sym, subst, arith}
use Rattle.osb_job.specs.declared.actions.Action.TheVariants as actions
use Rattle.osb_state.specs.States.{State, Allows}
use Rattle.osb_machine.proofs.StagedNumbers.{any-staged}
use Rattle.osb_machine.proofs.SharedStays.{found_commit, due_commit, shared_commit}
use Rattle.osb_machine.proofs.shares.Shared.commit.Goals as goal

pub take_staging-requires : goal.take_staging-requires
take_staging-requires c =
    let state : State = record { cache = c.self.inside.cache; board = c.self.inside.board; marked = c.self.inside.marked; keys = c.self.inside.keys; opened = c.self.inside.opened; log = c.self.inside.log.items } in
    let allowed = subst (λ s. Allows s c.args.worker (actions.Commit c.args.key)) (sym c.self.view_is) c.requires in
    record { stands = any-staged c.args.worker.0 c.args.key.0 state.cache.drafts allowed.draft c.self.inside.stagings.items c.self.invariant.staged (found_commit state c.args.worker c.args.key allowed) }

pub note-requires : goal.note-requires
note-requires c =
    let state : State = record { cache = c.self.inside.cache; board = c.self.inside.board; marked = c.self.inside.marked; keys = c.self.inside.keys; opened = c.self.inside.opened; log = c.self.inside.log.items } in
    let allowed = subst (λ s. Allows s c.args.worker (actions.Commit c.args.key)) (sym c.self.view_is) c.requires in
    omega (arith, c.self.invariant.room, due_commit state c.args.worker c.args.key _ _ _ c.self.invariant allowed)

pub overflow_sub-self : goal.overflow_sub-self
overflow_sub-self c =
    let state : State = record { cache = c.self.inside.cache; board = c.self.inside.board; marked = c.self.inside.marked; keys = c.self.inside.keys; opened = c.self.inside.opened; log = c.self.inside.log.items } in
    let allowed = subst (λ s. Allows s c.args.worker (actions.Commit c.args.key)) (sym c.self.view_is) c.requires in
    due_commit state c.args.worker c.args.key _ _ _ c.self.invariant allowed

pub invariant_of-self : goal.invariant_of-self
invariant_of-self c =
    let state : State = record { cache = c.self.inside.cache; board = c.self.inside.board; marked = c.self.inside.marked; keys = c.self.inside.keys; opened = c.self.inside.opened; log = c.self.inside.log.items } in
    let allowed = subst (λ s. Allows s c.args.worker (actions.Commit c.args.key)) (sym c.self.view_is) c.requires in
    shared_commit state c.args.worker c.args.key _ _ _ _ _ _ _ c.self.invariant allowed c.commit.ensures.after c.note.ensures.items c.take_staging.ensures.items c.note.ensures.capacity
