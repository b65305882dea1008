-- The event of an action of the script tells that action.
use Rattle.std.proofs.Common.{◌≡◌, ◌==◌, ◌&&◌, ℕ, Bool, true, false, cond, [], ◌∷◌, length, find, Option, Some, None, refl, sym, ap, subst, ◌∙◌, arith, count_by}
use Rattle.std.specs.Prelude.{slice_get, not, is_none}
use Rattle.std.specs.List.{list_any, slice_index_or}
use Rattle.std.specs.Option.{option_map_or}
use Rattle.std.proofs.lemmas.Bool.{cond-true, cond_both, eq-eqb}
use Rattle.std.proofs.lemmas.Option.{none-some, same_Some, get_or_from_slice_get}
use Rattle.osb_tree.specs.Trees.{Listing}
use Rattle.osb_tree.specs.declared.numbers.Key.{Key}
use Rattle.osb_tree.specs.declared.numbers.TaskNo.{TaskNo}
use Rattle.osb_tree.specs.declared.numbers.WorkerNo.{WorkerNo}
use Rattle.osb_recipe.specs.Meanings.{meant}
use Rattle.osb_recipe.specs.Plans.{IsSound}
use Rattle.osb_recipe.specs.Tables.{IsTable}
use Rattle.osb_recipe.specs.declared.outcomes.Outcome.{Outcome}
use Rattle.osb_recipe.specs.declared.outcomes.Outcome.TheVariants as outcomes
use Rattle.osb_recipe.specs.declared.plans.Plan.{Plan}
use Rattle.osb_board.specs.Boards.{claim_of}
use Rattle.osb_board.specs.declared.tasks.Claim.{Claim}
use Rattle.osb_board.specs.declared.tasks.Claim.TheVariants as claims
use Rattle.osb_cache.specs.Caches.{Draft, is_draft, look_reply, reserve_reply}
use Rattle.osb_cache.specs.declared.answers.Look.{Look}
use Rattle.osb_cache.specs.declared.answers.Look.TheVariants as looks
use Rattle.osb_cache.specs.declared.answers.Reserve.{Reserve}
use Rattle.osb_cache.specs.declared.answers.Reserve.TheVariants as reserves
use Rattle.osb_cache.proofs.Sums.{found_by_sum, sum_single}
use Rattle.osb_job.specs.declared.actions.Action.{Action}
use Rattle.osb_job.specs.declared.actions.Action.TheVariants as actions
use Rattle.osb_job.specs.declared.actions.Reply.TheVariants as replies
use Rattle.osb_job.specs.declared.entries.Event.{Event}
use Rattle.osb_job.specs.declared.entries.Event.TheVariants as events
use Rattle.osb_job.specs.declared.entries.Entry.{Entry}
use Rattle.osb_job.specs.Scripts.{Hand, free, reads, fills, Block, Progress, idle, busy, over, chain_at, marked_at, deps_at, chunks_meant, word_of, is_tree, is_no_memory, left_after, is_to_keep, keeping, working, fetching, reading, filling, going_on, giving_up, next}
use Rattle.osb_job.specs.Moves.{look_event, reserve_event, event_of, puts_of}
use Rattle.osb_state.specs.States.{State, progress_in, hand_of, draft_for, marked_in, part, gives, entries_of}
use Rattle.osb_state.specs.Kept.{drafts_due, puts_due, puts_on, Valid}
use Rattle.osb_state.specs.Truth.{IsTrueState}
use Rattle.osb_state.specs.Runs.{task_of, reserve_of, outcome_of, action_of}
use Rattle.osb_state.proofs.Entries.{entries}
use Rattle.osb_state.proofs.Blocked.{told_blocked}

-- ---- actions that their events tell

-- what an action has besides its event is what the plan means, where so many chunks were put before
abbrev IsPlanned : Plan → Progress → ℕ → Action → Type 0
IsPlanned plan progress puts actions.Claim = Unit {0}
IsPlanned plan progress puts (actions.Fetch dep) = Unit {0}
IsPlanned plan progress puts (actions.Look task) = task_of progress ≡ task
IsPlanned plan progress puts (actions.Read key place) = Unit {0}
IsPlanned plan progress puts (actions.Unpin key) = Unit {0}
IsPlanned plan progress puts (actions.Reserve key size count) = reserve_of plan key ≡ actions.Reserve key size count
IsPlanned plan progress puts (actions.Put key chunk) = slice_index_or (chunks_meant plan key) puts [] ≡ chunk
IsPlanned plan progress puts (actions.Commit key) = Unit {0}
IsPlanned plan progress puts (actions.Drop key) = Unit {0}
IsPlanned plan progress puts (actions.Done task outcome) = outcome_of plan task (word_of outcome) ≡ outcome

module _ (plan : Plan) (progress : Progress) (puts : ℕ) where
  by_event : (action : Action) (now event : Event) → Some now ≡ Some event → action_of plan progress now ≡ action → action_of plan progress event ≡ action
  by_event action now event is told = subst (λ (e : Event). action_of plan progress e ≡ action) (same_Some now event is) told

  claim_told : (claim : Claim) (event : Event) → event_of puts actions.Claim (replies.Claimed claim) ≡ Some event → action_of plan progress event ≡ actions.Claim
  claim_told (claims.Task task) event is = by_event actions.Claim (events.Claim task) event is refl
  claim_told claims.Idle event is = absurd (none-some event is)
  claim_told claims.Over event is = by_event actions.Claim events.Over event is refl

  look_told : (task : TaskNo) (look : Look) (event : Event) → Some (look_event look) ≡ Some event → task_of progress ≡ task → action_of plan progress event ≡ actions.Look task
  look_told task (looks.Hit place key count) event is planned = by_event (actions.Look task) (events.Hit key) event is (ap actions.Look planned)
  look_told task looks.Miss event is planned = by_event (actions.Look task) events.Miss event is (ap actions.Look planned)

  reserve_told : (key : Key) (action : Action) (reply : Reserve) (event : Event) → Some (reserve_event key reply) ≡ Some event → reserve_of plan key ≡ action → action_of plan progress event ≡ action
  reserve_told key action (reserves.Room evicted) event is planned = by_event action (events.Room key evicted) event is planned
  reserve_told key action reserves.Already event is planned = by_event action (events.Already key) event is planned
  reserve_told key action reserves.TooLarge event is planned = by_event action (events.TooLarge key) event is planned
  reserve_told key action reserves.Full event is planned = by_event action (events.Full key) event is planned

  told : (state : State) (worker : WorkerNo) (action : Action) (event : Event) → event_of puts action (gives state worker action) ≡ Some event → IsPlanned plan progress puts action → action_of plan progress event ≡ action
  told state worker actions.Claim event is planned = claim_told (claim_of state.board) event is
  told state worker (actions.Fetch dep) event is planned = by_event (actions.Fetch dep) _ event is refl
  told state worker (actions.Look task) event is planned = look_told task (look_reply state.cache (marked_in state task)) event is planned
  told state worker (actions.Read key place) event is planned = by_event (actions.Read key place) (events.Read key place) event is refl
  told state worker (actions.Unpin key) event is planned = by_event (actions.Unpin key) (events.Unpin key) event is refl
  told state worker (actions.Reserve key size count) event is planned = reserve_told key (actions.Reserve key size count) (reserve_reply state.cache key.0 size) event is planned
  told state worker (actions.Put key chunk) event is planned = by_event (actions.Put key chunk) (events.Put key puts) event is (ap (actions.Put key) planned)
  told state worker (actions.Commit key) event is planned = by_event (actions.Commit key) (events.Commit key) event is refl
  told state worker (actions.Drop key) event is planned = by_event (actions.Drop key) (events.Drop key) event is refl
  told state worker (actions.Done task outcome) event is planned = by_event (actions.Done task outcome) (events.Done task (word_of outcome)) event is (ap (actions.Done task) planned)

-- ---- the script's actions are such

-- as many chunks are staged as are put
puts_are : (state : State) (worker : WorkerNo) (key : Key) (count : ℕ) → Valid state → hand_of (progress_in state worker) ≡ fills key count → puts_of (part state worker) ≡ count
puts_are state worker key count valid has =
    let drafts = state.cache.drafts in
    let same : (key.0 == key.0) ≡ true = eq-eqb key.0 key.0 refl in
    let one : count_by (is_draft worker.0 key.0) drafts ≡ 1 = valid.drafted worker.0 key.0 ∙ ap (λ (h : Hand). drafts_due h key.0) has ∙ cond-true (key.0 == key.0) 1 0 same in
    let put : puts_on worker.0 key.0 drafts ≡ count = valid.put worker.0 key.0 ∙ ap (λ (h : Hand). puts_due h key.0) has ∙ cond-true (key.0 == key.0) count 0 same in
    let there = found_by_sum (λ (draft : Draft Listing). 1) (is_draft worker.0 key.0) drafts (omega (arith, one)) in
    let own : (part state worker).draft ≡ Some there.0 = ap (λ (h : Hand). draft_for worker h drafts) has ∙ there.1 in
    ap (λ (o : Option (Draft Listing)). option_map_or (λ draft. length draft.chunks) o 0) own
    ∙ sym (sum_single (λ (draft : Draft Listing). length draft.chunks) (is_draft worker.0 key.0) drafts there.0 (omega (arith, one)) there.1) ∙ put

meant_told : (plan : Plan) (task : TaskNo) (outcome : Outcome) → meant plan.table (chain_at plan task) ≡ outcome → outcome_of plan task (word_of outcome) ≡ outcome
meant_told plan task (outcomes.Tree listing) is = is
meant_told plan task (outcomes.Fault stage fault) is = is
meant_told plan task outcomes.Blocked is = is
meant_told plan task outcomes.NoMemory is = refl

module _ (plan : Plan) (state : State) (worker : WorkerNo) (block : Block) (sound : IsSound plan) (table : IsTable plan.table) (true_so : IsTrueState plan state) (at : progress_in state worker ≡ busy block) where
  abbrev Planned : Action → Type 0
  Planned action = IsPlanned plan (busy block) (puts_of (part state worker)) action

  giving_up_planned : (hand : Hand) → Planned (giving_up block.task hand)
  giving_up_planned free = refl
  giving_up_planned (reads key count) = tt
  giving_up_planned (fills key count) = tt

  keeping_planned : (key : Option Key) → Planned (keeping plan block key)
  keeping_planned (Some key) = refl
  keeping_planned None = meant_told plan block.task (meant plan.table (chain_at plan block.task)) refl

  working_planned : Planned (working plan block)
  working_planned =
      let to_look : Bool = not (length (marked_at plan block.task) == 0) && is_none block.looked in
      let first : Option Key = find (is_to_keep plan block) (left_after block.looked (chain_at plan block.task)) in
      let looks : Action = cond to_look (actions.Look block.task) (keeping plan block first) in
      let blocked : Action = cond (list_any (λ word. not (is_tree word)) block.words) (actions.Done block.task outcomes.Blocked) looks in
      cond_both (list_any is_no_memory block.words) (actions.Done block.task outcomes.NoMemory) blocked Planned (λ _. refl)
      (λ memory. cond_both (list_any (λ word. not (is_tree word)) block.words) (actions.Done block.task outcomes.Blocked) looks Planned (λ lost. told_blocked plan state block sound table true_so.ends (true_so.told worker.0 block at) memory lost)
      (λ _. cond_both to_look (actions.Look block.task) (keeping plan block first) Planned (λ _. refl) (λ _. keeping_planned first)))

  fetching_planned : (dep : Option TaskNo) → Planned (fetching plan block dep)
  fetching_planned (Some dep) = tt
  fetching_planned None = working_planned

  reading_planned : (key : Key) (count : ℕ) (chunk : Option Listing) → Planned (reading key count chunk)
  reading_planned key count (Some chunk) = tt
  reading_planned key count None = tt

  filling_planned : (key : Key) (count : ℕ) → block.hand ≡ fills key count → (chunk : Option Listing) → slice_get (chunks_meant plan key) count ≡ chunk → Planned (filling key chunk)
  filling_planned key count has (Some chunk) there =
      let so_many = puts_are state worker key count true_so.valid (ap hand_of at ∙ has) in
      ap (λ (place : ℕ). slice_index_or (chunks_meant plan key) place []) so_many ∙ get_or_from_slice_get (chunks_meant plan key) count chunk [] there
  filling_planned key count has None past = tt

  going_on_planned : (hand : Hand) → block.hand ≡ hand → Planned (going_on plan block hand)
  going_on_planned free has = fetching_planned (slice_get (deps_at plan block.task) (length block.words))
  going_on_planned (reads key count) has = reading_planned key count (slice_get (chunks_meant plan key) count)
  going_on_planned (fills key count) has = filling_planned key count has (slice_get (chunks_meant plan key) count) refl

planned : (plan : Plan) (state : State) (worker : WorkerNo) (off : Bool) (action : Action) (progress : Progress) → IsSound plan → IsTable plan.table → IsTrueState plan state → progress_in state worker ≡ progress → next plan progress off ≡ Some action → IsPlanned plan progress (puts_of (part state worker)) action
planned plan state worker true action idle sound table true_so at is = absurd (none-some action is)
planned plan state worker false action idle sound table true_so at is = subst (IsPlanned plan idle (puts_of (part state worker))) (same_Some actions.Claim action is) tt
planned plan state worker true action (busy block) sound table true_so at is =
    subst (IsPlanned plan (busy block) (puts_of (part state worker))) (same_Some (giving_up block.task block.hand) action is) (giving_up_planned plan state worker block sound table true_so at block.hand)
planned plan state worker false action (busy block) sound table true_so at is =
    subst (IsPlanned plan (busy block) (puts_of (part state worker))) (same_Some (going_on plan block block.hand) action is) (going_on_planned plan state worker block sound table true_so at block.hand refl)
planned plan state worker off action over sound table true_so at is = absurd (none-some action is)

-- ---- so an entry tells its action

pub one_event : (worker : WorkerNo) (event : Option Event) (entry : Entry) → entries worker event ≡ entry ∷ [] → event ≡ Some entry.event
one_event worker None entry is = cc
one_event worker (Some event) entry is =
    let same : (record { worker = worker; event = event }) ≡ entry = cc in
    ap (λ (e : Entry). Some e.event) same

pub entry_tells : (plan : Plan) (state : State) (entry : Entry) (off : Bool) (action : Action) → IsSound plan → IsTable plan.table → IsTrueState plan state → next plan (progress_in state entry.worker) off ≡ Some action → entries_of state entry.worker action ≡ entry ∷ []
    → action_of plan (progress_in state entry.worker) entry.event ≡ action
entry_tells plan state entry off action sound table true_so is noted =
    let worker = entry.worker in
    let puts : ℕ = puts_of (part state worker) in
    let event = one_event worker (event_of puts action (gives state worker action)) entry noted in
    told plan (progress_in state worker) puts state worker action entry.event event (planned plan state worker off action (progress_in state worker) sound table true_so refl is)
