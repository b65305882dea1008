-- Each action but an idle claim leaves an entry.
use Rattle.std.proofs.Common.{◌≡◌, ℕ, ◌&&◌, Bool, true, false, not, Some, refl, sym, ◌∙◌}
use Rattle.std.proofs.lemmas.Bool.{false≢true}
use Rattle.osb_tree.specs.declared.numbers.Key.{Key}
use Rattle.osb_tree.specs.declared.numbers.WorkerNo.{WorkerNo}
use Rattle.osb_board.specs.Boards.{claim_of, is_idle}
use Rattle.osb_board.specs.declared.tasks.Claim.{Claim}
use Rattle.osb_board.specs.declared.tasks.Claim.TheVariants as claims
use Rattle.osb_board.proofs.Claims.{is_idle_claim, is_idle-claim_of}
use Rattle.osb_cache.specs.Caches.{look_reply, reserve_reply}
use Rattle.osb_cache.specs.declared.answers.Look.{Look}
use Rattle.osb_cache.specs.declared.answers.Look.TheVariants as looks
use Rattle.osb_cache.specs.declared.answers.Reserve.{Reserve}
use Rattle.osb_cache.specs.declared.answers.Reserve.TheVariants as reserves
use Rattle.osb_job.specs.declared.actions.Action.{Action}
use Rattle.osb_job.specs.declared.actions.Action.TheVariants as actions
use Rattle.osb_job.specs.declared.actions.Reply.{Reply}
use Rattle.osb_job.specs.declared.actions.Reply.TheVariants as replies
use Rattle.osb_job.specs.declared.entries.Event.{Event}
use Rattle.osb_job.specs.Moves.{look_event, reserve_event, event_of, refused_after}
use Rattle.osb_state.specs.States.{State, is_ready, is_refusable, gives, marked_in}
use Rattle.osb_state.specs.Runs.{is_done}

-- the event of an action, which ends its block where the action is the last
pub record IsNoted (puts : ℕ) (action : Action) (reply : Reply) : Type 0 where
  pub event : Event
  pub is : event_of puts action reply ≡ Some event
  pub off : (off : Bool) → refused_after event off ≡ (not (is_done action) && off)

claimed : (puts : ℕ) (claim : Claim) → is_idle_claim claim ≡ false → IsNoted puts actions.Claim (replies.Claimed claim)
claimed puts (claims.Task task) busy = record { event = _; is = refl; off = λ off. refl }
claimed puts claims.Idle busy = absurd (false≢true (sym busy))
claimed puts claims.Over busy = record { event = _; is = refl; off = λ off. refl }

looked : (off : Bool) (look : Look) → refused_after (look_event look) off ≡ off
looked off (looks.Hit place key count) = refl
looked off looks.Miss = refl

reserved : (off : Bool) (key : Key) (reserve : Reserve) → refused_after (reserve_event key reserve) off ≡ off
reserved off key (reserves.Room evicted) = refl
reserved off key reserves.Already = refl
reserved off key reserves.TooLarge = refl
reserved off key reserves.Full = refl

not_false : (b : Bool) → not b ≡ true → b ≡ false
not_false true e = absurd (false≢true e)
not_false false e = refl

pub noted : (puts : ℕ) (state : State) (worker : WorkerNo) (action : Action) → is_ready state action ≡ true → IsNoted puts action (gives state worker action)
noted puts state worker actions.Claim ready = claimed puts (claim_of state.board) (sym (is_idle-claim_of state.board) ∙ not_false (is_idle state.board) ready)
noted puts state worker (actions.Fetch dep) ready = record { event = _; is = refl; off = λ off. refl }
noted puts state worker (actions.Look task) ready = record { event = _; is = refl; off = λ off. looked off (look_reply state.cache (marked_in state task)) }
noted puts state worker (actions.Read key place) ready = record { event = _; is = refl; off = λ off. refl }
noted puts state worker (actions.Unpin key) ready = record { event = _; is = refl; off = λ off. refl }
noted puts state worker (actions.Reserve key size count) ready = record { event = _; is = refl; off = λ off. reserved off key (reserve_reply state.cache key.0 size) }
noted puts state worker (actions.Put key chunk) ready = record { event = _; is = refl; off = λ off. refl }
noted puts state worker (actions.Commit key) ready = record { event = _; is = refl; off = λ off. refl }
noted puts state worker (actions.Drop key) ready = record { event = _; is = refl; off = λ off. refl }
noted puts state worker (actions.Done task outcome) ready = record { event = _; is = refl; off = λ off. refl }

-- only a claim has to wait, and memory may be refused to it
pub idle_refusable : (state : State) (action : Action) → is_ready state action ≡ false → is_refusable action ≡ true
idle_refusable state actions.Claim idle = refl
idle_refusable state (actions.Fetch dep) idle = refl
idle_refusable state (actions.Look task) idle = refl
idle_refusable state (actions.Read key place) idle = refl
idle_refusable state (actions.Unpin key) idle = absurd (false≢true (sym idle))
idle_refusable state (actions.Reserve key size count) idle = refl
idle_refusable state (actions.Put key chunk) idle = absurd (false≢true (sym idle))
idle_refusable state (actions.Commit key) idle = absurd (false≢true (sym idle))
idle_refusable state (actions.Drop key) idle = absurd (false≢true (sym idle))
idle_refusable state (actions.Done task outcome) idle = absurd (false≢true (sym idle))
