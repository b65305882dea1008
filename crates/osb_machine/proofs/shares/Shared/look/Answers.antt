use Rattle.std.proofs.Common.{◌≡◌, ◌+◌, ◌≤◌, ◌++◌, ◌∷◌, [], List, length, sym, ap, subst, ◌∙◌, arith}
use Rattle.std.specs.Vec.{vec_capacity}
use Rattle.osb_job.specs.declared.actions.Action.TheVariants as actions
use Rattle.osb_job.specs.declared.entries.Event.TheVariants as events
use Rattle.osb_job.specs.declared.entries.Entry.{Entry}
use Rattle.osb_state.specs.States.{State, Allows}
use Rattle.std.specs.List.{slice_index_or}
use Rattle.osb_tree.specs.declared.numbers.Key.{Key}
use Rattle.osb_machine.proofs.SharedStays.{shared_hit, shared_miss}
use Rattle.osb_machine.proofs.shares.Shared.look.Goals as goal

pub invariant_of-self-in-Hit : goal.invariant_of-self-in-Hit
invariant_of-self-in-Hit c =
    let state : State = record { cache = c.self.inside.cache; board = c.self.inside.board; marked = c.self.inside.marked; keys = c.self.inside.keys; opened = c.self.inside.opened; log = c.self.inside.log.items } in
    let allowed = subst (λ s. Allows s c.args.worker (actions.Look c.args.task)) (sym c.self.view_is) c.requires in
    let room : length c.self.inside.log.items + c.self.inside.due + 2 ≤ vec_capacity c.spare.new.log = c.in_ok-spare.ensures.ok in
    let log : c.note.new.log.items ≡ state.log ++ record { worker = c.args.worker; event = events.Hit c.in-Hit.key } ∷ [] = c.note.ensures.items ∙ ap (λ (xs : List Entry). xs ++ record { worker = c.args.worker; event = events.Hit c.in-Hit.key } ∷ []) c.spare.ensures.items in
    let keys = c.marked_for-keys.ensures ∙ ap (λ (xs : List (List Key)). slice_index_or xs c.args.task.0 []) c.as_slice.ensures.items in
    shared_hit state c.args.worker c.args.task c.marked_for-keys.result.now c.in-Hit.place c.in-Hit.chunks c.in-Hit.key _ _ _ _ _ _ c.self.invariant allowed keys (sym c.in_ok-look.ensures.reply ∙ c.in-Hit.is) c.in_ok-look.ensures.after log (omega (arith, room, c.note.ensures.capacity))

pub invariant_of-self-in-Miss : goal.invariant_of-self-in-Miss
invariant_of-self-in-Miss c =
    let state : State = record { cache = c.self.inside.cache; board = c.self.inside.board; marked = c.self.inside.marked; keys = c.self.inside.keys; opened = c.self.inside.opened; log = c.self.inside.log.items } in
    let allowed = subst (λ s. Allows s c.args.worker (actions.Look c.args.task)) (sym c.self.view_is) c.requires in
    let room : length c.self.inside.log.items + c.self.inside.due + 2 ≤ vec_capacity c.spare.new.log = c.in_ok-spare.ensures.ok in
    let log : c.note-in-Miss.new.log.items ≡ state.log ++ record { worker = c.args.worker; event = events.Miss } ∷ [] = c.note-in-Miss.ensures.items ∙ ap (λ (xs : List Entry). xs ++ record { worker = c.args.worker; event = events.Miss } ∷ []) c.spare.ensures.items in
    let keys = c.marked_for-keys.ensures ∙ ap (λ (xs : List (List Key)). slice_index_or xs c.args.task.0 []) c.as_slice.ensures.items in
    shared_miss state c.args.worker c.args.task c.marked_for-keys.result.now _ _ _ _ _ _ c.self.invariant allowed keys (sym c.in_ok-look.ensures.reply ∙ c.in-Miss.is) c.in_ok-look.ensures.after log (omega (arith, room, c.note-in-Miss.ensures.capacity))
