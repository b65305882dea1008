use Rattle.std.proofs.Common.{◌≡◌, ◌+◌, ◌≤◌, ◌++◌, ◌∷◌, [], List, length, sym, ap, subst, ◌∙◌, arith}
use Rattle.std.specs.Vec.{vec_capacity}
use Rattle.osb_job.specs.declared.actions.Action.TheVariants as actions
use Rattle.osb_job.specs.declared.entries.Entry.{Entry}
use Rattle.osb_state.specs.States.{State, Allows}
use Rattle.osb_cache.specs.declared.answers.Reserve.{Reserve}
use Rattle.osb_cache.specs.Caches.{reserve_reply}
use Rattle.osb_job.specs.Moves.{reserve_event}
use Rattle.osb_machine.specs.declared.stagings.Staging.{Staging}
use Rattle.osb_machine.proofs.SharedStays.{new_staging, shared_room, shared_unreserved}
use Rattle.osb_machine.proofs.shares.Shared.reserve.Goals as goal

pub invariant_of-self-in-Room : goal.invariant_of-self-in-Room
invariant_of-self-in-Room c =
    let state : State = record { cache = c.self.inside.cache; board = c.self.inside.board; marked = c.self.inside.marked; keys = c.self.inside.keys; opened = c.self.inside.opened; log = c.self.inside.log.items } in
    let allowed = subst (λ s. Allows s c.args.worker (actions.Reserve c.args.key c.args.size c.args.count)) (sym c.self.view_is) c.requires in
    let room : length c.self.inside.log.items + c.self.inside.due + c.in-Some.more ≤ vec_capacity c.spare.new.log = c.in_ok-spare.ensures.ok in
    let log : c.note.new.log.items ≡ state.log ++ record { worker = c.args.worker; event = c.reserve_event.result } ∷ [] = c.note.ensures.items ∙ ap (λ (xs : List Entry). xs ++ record { worker = c.args.worker; event = c.reserve_event.result } ∷ []) c.spare.ensures.items in
    let event : c.reserve_event.result ≡ reserve_event c.args.key (reserve_reply state.cache c.args.key.0 c.args.size) = c.reserve_event.ensures ∙ ap (λ (r : Reserve). reserve_event c.args.key r) c.in_ok-reserve-2.ensures.reply in
    let entries = log ∙ ap (λ event. state.log ++ record { worker = c.args.worker; event = event } ∷ []) event in
    let more = c.push_reserved.ensures.items ∙ ap (λ (xs : List Staging). xs ++ new_staging c.args.worker c.args.key c.args.count ∷ []) c.reserve.ensures.items in
    shared_room state c.args.worker c.args.key c.args.size c.args.count c.in-Room.evicted _ _ _ _ _ _ _ c.self.invariant allowed (sym c.in_ok-reserve-2.ensures.reply ∙ c.in-Room.is) c.in_ok-reserve-2.ensures.after entries more (omega (arith, room, c.note.ensures.capacity, c.in-Some.ensures))

pub invariant_of-self-in_default-reserve : goal.invariant_of-self-in_default-reserve
invariant_of-self-in_default-reserve c =
    let state : State = record { cache = c.self.inside.cache; board = c.self.inside.board; marked = c.self.inside.marked; keys = c.self.inside.keys; opened = c.self.inside.opened; log = c.self.inside.log.items } in
    let allowed = subst (λ s. Allows s c.args.worker (actions.Reserve c.args.key c.args.size c.args.count)) (sym c.self.view_is) c.requires in
    let room : length c.self.inside.log.items + c.self.inside.due + c.in-Some.more ≤ vec_capacity c.spare.new.log = c.in_ok-spare.ensures.ok in
    let log : c.note.new.log.items ≡ state.log ++ record { worker = c.args.worker; event = c.reserve_event.result } ∷ [] = c.note.ensures.items ∙ ap (λ (xs : List Entry). xs ++ record { worker = c.args.worker; event = c.reserve_event.result } ∷ []) c.spare.ensures.items in
    let event : c.reserve_event.result ≡ reserve_event c.args.key (reserve_reply state.cache c.args.key.0 c.args.size) = c.reserve_event.ensures ∙ ap (λ (r : Reserve). reserve_event c.args.key r) c.in_ok-reserve-2.ensures.reply in
    let entries = log ∙ ap (λ event. state.log ++ record { worker = c.args.worker; event = event } ∷ []) event in
    rw c.reserve.ensures.items (shared_unreserved state c.args.worker c.args.key c.args.size c.args.count _ _ _ _ _ _ c.self.invariant allowed (λ evicted e. c.in_default-reserve.not-Room evicted (c.in_ok-reserve-2.ensures.reply ∙ e)) c.in_ok-reserve-2.ensures.after entries (omega (arith, room, c.note.ensures.capacity, c.in-Some.ensures)))
