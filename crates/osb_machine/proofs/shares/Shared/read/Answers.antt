use Rattle.std.proofs.Common.{◌≡◌, ◌+◌, ◌≤◌, ◌++◌, ◌∷◌, [], List, length, get_or, sym, ap, subst, ◌∙◌, arith}
use Rattle.std.specs.Vec.{vec_capacity}
use Rattle.osb_job.specs.declared.actions.Action.TheVariants as actions
use Rattle.osb_job.specs.declared.entries.Event.TheVariants as events
use Rattle.osb_job.specs.declared.entries.Entry.{Entry}
use Rattle.osb_job.specs.declared.actions.Reply.TheVariants as replies
use Rattle.osb_tree.specs.Trees.{Listing}
use Rattle.osb_cache.specs.Caches.{chunks_at}
use Rattle.osb_state.specs.States.{State, Allows}
use Rattle.std.proofs.lemmas.Option.{get_or_from_slice_get}
use Rattle.osb_machine.proofs.SharedStays.{shared_read}
use Rattle.osb_machine.proofs.shares.Shared.read.Goals as goal

pub invariant_of-self-2 : goal.invariant_of-self-2
invariant_of-self-2 c =
    let state : State = record { cache = c.self.inside.cache; board = c.self.inside.board; marked = c.self.inside.marked; keys = c.self.inside.keys; opened = c.self.inside.opened; log = c.self.inside.log.items } in
    let allowed = subst (λ s. Allows s c.args.worker (actions.Read c.args.key c.args.place)) (sym c.self.view_is) c.requires in
    let room : length c.self.inside.log.items + c.self.inside.due + 1 ≤ vec_capacity c.spare.new.log = c.in_ok-spare.ensures.ok in
    let log : c.note.new.log.items ≡ state.log ++ record { worker = c.args.worker; event = events.Read c.args.key c.args.place } ∷ [] = c.note.ensures.items ∙ ap (λ (xs : List Entry). xs ++ record { worker = c.args.worker; event = events.Read c.args.key c.args.place } ∷ []) c.spare.ensures.items in
    shared_read state c.args.worker c.args.key c.args.place _ _ _ _ _ c.self.invariant allowed log (omega (arith, room, c.note.ensures.capacity))

pub returns-clause-reply : goal.returns-clause-reply
returns-clause-reply c =
    let chunks = ap (λ (state : State). chunks_at c.args.key.0 state.cache.lines) c.self.view_is in
    ap replies.Chunk (sym (get_or_from_slice_get (chunks_at c.args.key.0 c.self.inside.cache.lines) c.args.place c.in_ok-chunk.chunk [] c.in_ok-chunk.ensures.chunk) ∙ ap (λ (xs : List Listing). get_or xs c.args.place []) chunks)
