-- An allowed action keeps what holds of the state.
use Rattle.std.proofs.Common.{◌≡◌, ℕ, ◌+◌, List, [], ◌∷◌, ◌++◌, length, map, find, Some, refl, sym, ap, subst, ◌∙◌, append-nil}
use Rattle.std.specs.Option.{option_map_or, option_to_list}
use Rattle.osb_tree.specs.Trees.{Listing}
use Rattle.osb_tree.specs.declared.numbers.Key.{Key}
use Rattle.osb_tree.specs.declared.numbers.TaskNo.{TaskNo}
use Rattle.osb_tree.specs.declared.numbers.WorkerNo.{WorkerNo}
use Rattle.osb_recipe.specs.declared.outcomes.Outcome.{Outcome}
use Rattle.osb_recipe.specs.declared.outcomes.Outcome.TheVariants as outcomes
use Rattle.osb_board.specs.Boards.{claim_of, after_answer, outcome_at}
use Rattle.osb_board.specs.declared.tasks.Claim.{Claim}
use Rattle.osb_board.specs.declared.tasks.Claim.TheVariants as claims
use Rattle.osb_cache.specs.Caches.{Draft, is_draft, look_reply, after_look, reserve_reply, after_reserve}
use Rattle.osb_cache.specs.declared.answers.Look.{Look}
use Rattle.osb_cache.specs.declared.answers.Look.TheVariants as looks
use Rattle.osb_cache.specs.declared.answers.Reserve.{Reserve}
use Rattle.osb_cache.specs.declared.answers.Reserve.TheVariants as reserves
use Rattle.osb_job.specs.declared.actions.Action.{Action}
use Rattle.osb_job.specs.declared.actions.Action.TheVariants as actions
use Rattle.osb_job.specs.declared.actions.Reply.TheVariants as replies
use Rattle.osb_job.specs.declared.entries.Entry.{Entry}
use Rattle.osb_job.specs.declared.entries.Event.{Event}
use Rattle.osb_job.specs.declared.entries.Event.TheVariants as events
use Rattle.osb_job.specs.Scripts.{Hand, free, reads, fills, Block, Progress, idle, busy, over, new_block, turn, word_of}
use Rattle.osb_job.specs.Allowed.{IsBusy, MayReserve, IsReading, IsFilling, MayPut, MayCommit}
use Rattle.osb_job.specs.Moves.{look_event, reserve_event, event_of, puts_of}
use Rattle.osb_job.proofs.Blocks.{hand_after, GoesOn}
use Rattle.osb_state.specs.States.{State, hand_of, draft_for, marked_in, part, Allows, after}
use Rattle.osb_state.specs.Kept.{runs, IsKept, progress_by, Valid}
use Rattle.osb_state.specs.Laws.{ValidStays}
use Rattle.osb_state.proofs.Changes.{change, noted_valid}
use Rattle.osb_state.proofs.HandsKept.{Hands, kept_still, kept_hit, kept_unpin, kept_room, kept_put, kept_commit, kept_drop}
use Rattle.osb_state.proofs.BoardsKept.{kept_claim, kept_done}

hand_on : (block : Block) (event : Event) → GoesOn event → hand_of (turn (busy block) event) ≡ hand_after event block.hand
hand_on block (events.Claim task) on = absurd on
hand_on block events.Over on = absurd on
hand_on block (events.Fetch dep word) on = refl
hand_on block (events.Hit key) on = refl
hand_on block events.Miss on = refl
hand_on block (events.Read key place) on = refl
hand_on block (events.Unpin key) on = refl
hand_on block (events.Room key evicted) on = refl
hand_on block (events.Already key) on = refl
hand_on block (events.TooLarge key) on = refl
hand_on block (events.Full key) on = refl
hand_on block (events.Put key place) on = refl
hand_on block (events.Commit key) on = refl
hand_on block (events.Drop key) on = refl
hand_on block (events.Done task word) on = absurd on

task_on : (block : Block) (event : Event) → GoesOn event → (task : ℕ) → runs (turn (busy block) event) task ≡ runs (busy block) task
task_on block (events.Claim other) on task = absurd on
task_on block events.Over on task = absurd on
task_on block (events.Fetch dep word) on task = refl
task_on block (events.Hit key) on task = refl
task_on block events.Miss on task = refl
task_on block (events.Read key place) on task = refl
task_on block (events.Unpin key) on task = refl
task_on block (events.Room key evicted) on task = refl
task_on block (events.Already key) on task = refl
task_on block (events.TooLarge key) on task = refl
task_on block (events.Full key) on task = refl
task_on block (events.Put key place) on task = refl
task_on block (events.Commit key) on task = refl
task_on block (events.Drop key) on task = refl
task_on block (events.Done other word) on task = absurd on

module _ (state : State) (worker : WorkerNo) (s : Valid state) where
  -- how a busy worker goes on
  goes : (event : Event) (task : TaskNo) (hand : Hand) → GoesOn event → IsBusy (part state worker) task hand → Hands (progress_by state) worker.0 (turn (progress_by state worker.0) event) hand (hand_after event hand)
  goes event task hand on was =
      record {
        before = ap hand_of was.at ∙ was.hand_is;
        here = ap (λ (p : Progress). hand_of (turn p event)) was.at ∙ hand_on was.block event on ∙ ap (hand_after event) was.hand_is;
        runs_on = λ task. ap (λ (p : Progress). runs (turn p event) task) was.at ∙ task_on was.block event on task ∙ sym (ap (λ (p : Progress). runs p task) was.at);
      }

  -- the state with an entry more
  abbrev noted : Event → State
  noted event = record state { log = state.log ++ (record { worker = worker; event = event }) ∷ [] }

  still : (event : Event) (task : TaskNo) (hand : Hand) → GoesOn event → IsBusy (part state worker) task hand → hand_after event hand ≡ hand → Valid (noted event)
  still event task hand on was same =
      let hands = subst (λ (h : Hand). Hands (progress_by state) worker.0 (turn (progress_by state worker.0) event) hand h) same (goes event task hand on was) in
      noted_valid state (record { worker = worker; event = event }) state.cache state.board
      (kept_still state.cache state.board (progress_by state) worker.0 (turn (progress_by state worker.0) event) hand hand state.keys _ hands (λ k. refl) (λ k. refl) (λ k. refl) s)

  claimed : (puts : ℕ) (claim : Claim) → claim_of state.board ≡ claim → progress_by state worker.0 ≡ idle
      → Valid (record state { board = after_answer state.board worker claim; log = state.log ++ map (λ event. record { worker = worker; event = event }) (option_to_list (event_of puts actions.Claim (replies.Claimed claim))) })
  claimed puts (claims.Task task) e at =
      noted_valid state (record { worker = worker; event = events.Claim task }) state.cache (after_answer state.board worker (claims.Task task))
      (subst (λ c. IsKept state.cache (after_answer state.board worker c) (change (progress_by state) worker.0 (busy (new_block task))) state.keys (state.opened.kept + state.opened.evicted + length state.log + 1)) e (kept_claim state.cache state.board (progress_by state) worker state.keys _ task e at s))
  claimed puts claims.Idle e at = subst (λ (log : List Entry). Valid (record state { log = log })) (sym (append-nil state.log)) s
  claimed puts claims.Over e at =
      noted_valid state (record { worker = worker; event = events.Over }) state.cache state.board
      (kept_still state.cache state.board (progress_by state) worker.0 over free free state.keys _ (record { before = ap hand_of at; here = refl; runs_on = λ task. sym (ap (λ (p : Progress). runs p task) at) }) (λ k. refl) (λ k. refl) (λ k. refl) s)

  looked : (task : TaskNo) (look : Look) → look_reply state.cache (marked_in state task) ≡ look → IsBusy (part state worker) task free
      → Valid (record state { cache = after_look state.cache worker.0 look; log = state.log ++ (record { worker = worker; event = look_event look }) ∷ [] })
  looked task (looks.Hit place key count) e was =
      noted_valid state (record { worker = worker; event = events.Hit key }) (after_look state.cache worker.0 (looks.Hit place key count)) state.board
      (kept_hit state.cache state.board (progress_by state) worker.0 (turn (progress_by state worker.0) (events.Hit key)) state.keys _ (marked_in state task) place count key e (goes (events.Hit key) task free tt was) s)
  looked task looks.Miss e was = still events.Miss task free tt was refl

  reserved : (key : Key) (size count : ℕ) (reserve : Reserve) → reserve_reply state.cache key.0 size ≡ reserve → MayReserve (part state worker) key
      → Valid (record state { cache = after_reserve state.cache worker.0 key.0 size count reserve; log = state.log ++ (record { worker = worker; event = reserve_event key reserve }) ∷ [] })
  reserved key size count (reserves.Room evicted) e may =
      noted_valid state (record { worker = worker; event = events.Room key evicted }) (after_reserve state.cache worker.0 key.0 size count (reserves.Room evicted)) state.board
      (kept_room state.cache state.board (progress_by state) worker.0 (turn (progress_by state worker.0) (events.Room key evicted)) state.keys _ key size count evicted may.known e (goes (events.Room key evicted) may.task free tt may.busy) s)
  reserved key size count reserves.Already e may = still (events.Already key) may.task free tt may.busy refl
  reserved key size count reserves.TooLarge e may = still (events.TooLarge key) may.task free tt may.busy refl
  reserved key size count reserves.Full e may = still (events.Full key) may.task free tt may.busy refl

  -- the draft of the own part is the one that is found
  own_draft : (key : Key) (draft : Draft Listing) (filling : IsFilling (part state worker) key) → (part state worker).draft ≡ Some draft → find (is_draft worker.0 key.0) state.cache.drafts ≡ Some draft
  own_draft key draft filling own = sym (ap (λ (h : Hand). draft_for worker h state.cache.drafts) (ap hand_of filling.busy.at ∙ filling.busy.hand_is)) ∙ own

  valid_read : (key : Key) (place : ℕ) → IsReading (part state worker) key → Valid (noted (events.Read key place))
  valid_read key place may =
      noted_valid state (record { worker = worker; event = events.Read key place }) state.cache state.board
      (kept_still state.cache state.board (progress_by state) worker.0 (turn (progress_by state worker.0) (events.Read key place)) (reads key may.count) (reads key (may.count + 1)) state.keys _ (goes (events.Read key place) may.task (reads key may.count) tt may.busy) (λ k. refl) (λ k. refl) (λ k. refl) s)

  valid_unpin : (key : Key) → IsReading (part state worker) key → Valid (after state worker (actions.Unpin key))
  valid_unpin key may =
      noted_valid state (record { worker = worker; event = events.Unpin key }) _ state.board
      (kept_unpin state.cache state.board (progress_by state) worker.0 (turn (progress_by state worker.0) (events.Unpin key)) state.keys _ key may.count (goes (events.Unpin key) may.task (reads key may.count) tt may.busy) s)

  valid_put : (key : Key) (chunk : Listing) → MayPut (part state worker) key chunk → Valid (after state worker (actions.Put key chunk))
  valid_put key chunk may =
      let event : Event = events.Put key (puts_of (part state worker)) in
      noted_valid state (record { worker = worker; event = event }) _ state.board
      (kept_put state.cache state.board (progress_by state) worker.0 (turn (progress_by state worker.0) event) state.keys _ key may.filling.count chunk may.draft (own_draft key may.draft may.filling may.own) may.room (goes event may.filling.task (fills key may.filling.count) tt may.filling.busy) s)

  valid_commit : (key : Key) → MayCommit (part state worker) key → Valid (after state worker (actions.Commit key))
  valid_commit key may =
      noted_valid state (record { worker = worker; event = events.Commit key }) _ state.board
      (kept_commit state.cache state.board (progress_by state) worker.0 (turn (progress_by state worker.0) (events.Commit key)) state.keys _ key may.filling.count may.draft (own_draft key may.draft may.filling may.own) may.whole may.tree (goes (events.Commit key) may.filling.task (fills key may.filling.count) tt may.filling.busy) s)

  valid_drop : (key : Key) → IsFilling (part state worker) key → Valid (after state worker (actions.Drop key))
  valid_drop key may =
      noted_valid state (record { worker = worker; event = events.Drop key }) _ state.board
      (kept_drop state.cache state.board (progress_by state) worker.0 (turn (progress_by state worker.0) (events.Drop key)) state.keys _ key may.count (goes (events.Drop key) may.task (fills key may.count) tt may.busy) s)

  valid_done : (task : TaskNo) (outcome : Outcome) → IsBusy (part state worker) task free → Valid (after state worker (actions.Done task outcome))
  valid_done task outcome was =
      noted_valid state (record { worker = worker; event = events.Done task (word_of outcome) }) state.cache _
      (kept_done state.cache state.board (progress_by state) worker state.keys _ task outcome was.block was.at was.task_is was.hand_is s)

  fetched : TaskNo → Outcome
  fetched dep = option_map_or (λ outcome. outcome) (outcome_at state.board dep.0) outcomes.NoMemory

  valid_after : (action : Action) → Allows state worker action → Valid (after state worker action)
  unfolding fetched
  valid_after actions.Claim at = claimed (puts_of (part state worker)) (claim_of state.board) refl at
  valid_after (actions.Fetch dep) may = still (events.Fetch dep (word_of (fetched dep))) may.task may.hand tt may.busy refl
  valid_after (actions.Look task) was = looked task (look_reply state.cache (marked_in state task)) refl was
  valid_after (actions.Read key place) may = valid_read key place may.reading
  valid_after (actions.Unpin key) may = valid_unpin key may
  valid_after (actions.Reserve key size count) may = reserved key size count (reserve_reply state.cache key.0 size) refl may
  valid_after (actions.Put key chunk) may = valid_put key chunk may
  valid_after (actions.Commit key) may = valid_commit key may
  valid_after (actions.Drop key) may = valid_drop key may
  valid_after (actions.Done task outcome) was = valid_done task outcome was

pub valid_stays : ValidStays
valid_stays state worker action s allowed = valid_after state worker s action allowed
