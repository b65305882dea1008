use Rattle.std.proofs.Common.{◌≡◌, ◌+◌, ◌≤◌, ◌++◌, ◌∷◌, [], List, length, sym, ap, subst, ◌∙◌, arith}
use Rattle.std.specs.Vec.{vec_capacity}
use Rattle.osb_job.specs.declared.actions.Action.TheVariants as actions
use Rattle.osb_job.specs.declared.entries.Event.TheVariants as events
use Rattle.osb_job.specs.declared.entries.Entry.{Entry}
use Rattle.osb_state.specs.States.{State, Allows}
use Rattle.osb_machine.proofs.Conditions.{may_fetch}
use Rattle.osb_machine.proofs.SharedStays.{shared_fetched}
use Rattle.osb_machine.proofs.shares.Shared.fetch.Goals as goal

pub fetch-requires : goal.fetch-requires
fetch-requires c =
    let state : State = record { cache = c.self.inside.cache; board = c.self.inside.board; marked = c.self.inside.marked; keys = c.self.inside.keys; opened = c.self.inside.opened; log = c.self.inside.log.items } in
    let allowed = subst (λ s. Allows s c.args.worker (actions.Fetch c.args.dep)) (sym c.self.view_is) c.requires in
    record { done = may_fetch state c.args.worker c.args.dep c.self.invariant.valid allowed }

pub invariant_of-self-2 : goal.invariant_of-self-2
invariant_of-self-2 c =
    let state : State = record { cache = c.self.inside.cache; board = c.self.inside.board; marked = c.self.inside.marked; keys = c.self.inside.keys; opened = c.self.inside.opened; log = c.self.inside.log.items } in
    let allowed = subst (λ s. Allows s c.args.worker (actions.Fetch c.args.dep)) (sym c.self.view_is) c.requires in
    let room : length c.self.inside.log.items + c.self.inside.due + 1 ≤ vec_capacity c.spare.new.log = c.in_ok-spare.ensures.ok in
    let log : c.note.new.log.items ≡ state.log ++ record { worker = c.args.worker; event = events.Fetch c.args.dep c.word_of.result } ∷ [] = c.note.ensures.items ∙ ap (λ (xs : List Entry). xs ++ record { worker = c.args.worker; event = events.Fetch c.args.dep c.word_of.result } ∷ []) c.spare.ensures.items in
    let words = ap (λ word. state.log ++ record { worker = c.args.worker; event = events.Fetch c.args.dep word } ∷ []) c.word_of.ensures.word in
    shared_fetched state c.args.worker c.args.dep c.in_ok-outcome.outcome _ _ _ _ _ c.self.invariant allowed c.in_ok-outcome.ensures.outcome (log ∙ words) (omega (arith, room, c.note.ensures.capacity))
