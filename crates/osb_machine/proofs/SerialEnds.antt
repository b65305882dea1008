-- What the turns of one worker leave where it has stopped.
use Rattle.std.proofs.Common.{◌≡◌, ◌≢◌, ℕ, zero, suc, ◌<◌, ◌≤◌, ◌==◌, ◌&&◌, inl, inr, Bool, true, false, cond, List, [], ◌∷◌, length, map, Option, Some, None, refl, sym, ap, subst, ◌∙◌, arith}
use Rattle.std.specs.Prelude.{slice_get, not, find, is_none}
use Rattle.std.specs.List.{list_any}
use Rattle.std.proofs.lemmas.Bool.{false≢true, ne_eqb}
use Rattle.std.proofs.lemmas.List.Elements.{All-map}
use Rattle.std.proofs.lemmas.Option.{none-some, same_Some}
use Rattle.osb_tree.specs.Trees.{Listing}
use Rattle.osb_tree.specs.declared.numbers.Key.{Key}
use Rattle.osb_tree.specs.declared.numbers.TaskNo.{TaskNo}
use Rattle.osb_recipe.specs.Plans.{IsSound}
use Rattle.osb_recipe.specs.Tables.{IsTable}
use Rattle.osb_recipe.specs.declared.plans.Plan.{Plan}
use Rattle.osb_cache.specs.Caches.{stored_of}
use Rattle.osb_cache.specs.declared.answers.Stored.{Stored}
use Rattle.osb_job.specs.declared.actions.Action.{Action}
use Rattle.osb_job.specs.declared.actions.Action.TheVariants as actions
use Rattle.osb_job.specs.declared.entries.Entry.{Entry}
use Rattle.osb_job.specs.declared.places.Place.{Place}
use Rattle.osb_job.specs.Jobs.{wants}
use Rattle.osb_job.specs.Scripts.{Hand, free, reads, fills, Block, Progress, idle, busy, over, is_no_memory, is_tree, is_to_keep, keeping, working, fetching, reading, filling, going_on, giving_up, next, progress_of, marked_at, chain_at, deps_at, chunks_meant, left_after}
use Rattle.osb_job.proofs.AgreeingTurns.{wants_what_is_next}
use Rattle.osb_state.specs.States.{State, own, progress_in, after}
use Rattle.osb_state.specs.Openings.{opened_state}
use Rattle.osb_state.specs.Runs.{replay, action_of, change, is_done, IsRunFrom}
use Rattle.osb_state.specs.Filling.{IsAtRest}
use Rattle.osb_state.specs.Spent.{IsSpent, stages_run}
use Rattle.osb_state.specs.Serial.{HasStopped, IsSerial, first_worker}
use Rattle.osb_state.specs.Truth.{AreMeant, IsTrueOpening, IsTrueState}
use Rattle.osb_machine.specs.Finishes.{IsFinished, outcomes_in}
use Rattle.osb_machine.specs.declared.shares.Finished.{Finished}
use Rattle.osb_state.proofs.BlocksSpent.{blocks_are_spent}

-- ---- in a block the script wants something, and no claim

abbrev is_claim : Action → Bool
is_claim actions.Claim = true
is_claim action = false

by_test : (b : Bool) (x y : Action) → is_claim x ≡ false → is_claim y ≡ false → is_claim (cond b x y) ≡ false
by_test true x y one other = one
by_test false x y one other = other

keeping_acts : (plan : Plan) (block : Block) (found : Option Key) → is_claim (keeping plan block found) ≡ false
keeping_acts plan block (Some key) = refl
keeping_acts plan block None = refl

working_acts : (plan : Plan) (block : Block) → is_claim (working plan block) ≡ false
working_acts plan block =
    let keeps : Action = keeping plan block (find (is_to_keep plan block) (left_after block.looked (chain_at plan block.task))) in
    by_test (list_any is_no_memory block.words) _ _ refl
    (by_test (list_any (λ word. not (is_tree word)) block.words) _ _ refl
    (by_test (not (length (marked_at plan block.task) == 0) && is_none block.looked) (actions.Look block.task) keeps refl
    (keeping_acts plan block (find (is_to_keep plan block) (left_after block.looked (chain_at plan block.task))))))

fetching_acts : (plan : Plan) (block : Block) (dep : Option TaskNo) → is_claim (fetching plan block dep) ≡ false
fetching_acts plan block (Some dep) = refl
fetching_acts plan block None = working_acts plan block

reading_acts : (key : Key) (count : ℕ) (chunk : Option Listing) → is_claim (reading key count chunk) ≡ false
reading_acts key count (Some chunk) = refl
reading_acts key count None = refl

filling_acts : (key : Key) (chunk : Option Listing) → is_claim (filling key chunk) ≡ false
filling_acts key (Some chunk) = refl
filling_acts key None = refl

going_on_acts : (plan : Plan) (block : Block) (hand : Hand) → is_claim (going_on plan block hand) ≡ false
going_on_acts plan block free = fetching_acts plan block (slice_get (deps_at plan block.task) (length block.words))
going_on_acts plan block (reads key count) = reading_acts key count (slice_get (chunks_meant plan key) count)
going_on_acts plan block (fills key count) = filling_acts key (slice_get (chunks_meant plan key) count)

giving_up_acts : (task : TaskNo) (hand : Hand) → is_claim (giving_up task hand) ≡ false
giving_up_acts task free = refl
giving_up_acts task (reads key count) = refl
giving_up_acts task (fills key count) = refl

busy_acts : (plan : Plan) (block : Block) (off : Bool) (action : Action) → next plan (busy block) off ≡ Some action → is_claim action ≡ false
busy_acts plan block off action is =
    let wanted : Action = cond off (giving_up block.task block.hand) (going_on plan block block.hand) in
    let same : wanted ≡ action = same_Some wanted action is in
    subst (λ (a : Action). is_claim a ≡ false) same (by_test off (giving_up block.task block.hand) (going_on plan block block.hand) (giving_up_acts block.task block.hand) (going_on_acts plan block block.hand))

busy_goes_on : (plan : Plan) (state : State) (place : Place) (block : Block) (off : Bool) → HasStopped state place → wants place ≡ next plan (busy block) off → ⊥
busy_goes_on plan state place block off stopped is =
    elim stopped [
      | inl nothing ↦ none-some _ (sym nothing ∙ is)
      | inr waits ↦ false≢true (sym (busy_acts plan block off actions.Claim (sym is ∙ waits.0)))
    ]

-- ---- the others have no entries

own_step : (b : Bool) (entry : Entry) (entries : List Entry) → b ≡ false → entries ≡ [] → cond b (entry ∷ entries) entries ≡ []
own_step true entry entries other none = absurd (false≢true (sym other))
own_step false entry entries other none = none

others_none : (plan : Plan) (state : State) (refused : ℕ → Bool) (log : List Entry) (worker : ℕ) → 0 < worker → IsRunFrom plan 1 state refused log → own worker log ≡ []
others_none plan state refused log worker other (IsRunFrom.ends s r) = refl
others_none plan state refused log worker other (IsRunFrom.goes_on s r action entry left few is noted runs) =
    own_step (entry.worker.0 == worker) entry (own worker left) (ne_eqb entry.worker.0 worker (λ same. absurd (omega arith)))
    (others_none plan (after s entry.worker action) (change r entry.worker (not (is_done action) && r entry.worker.0)) left worker other runs)
others_none plan state refused log worker other (IsRunFrom.gives_up s r by left runs) = others_none plan s (change r by true) left worker other runs

opened_replay : (plan : Plan) (state : State) (log : List Entry) → (replay plan state log).opened ≡ state.opened
opened_replay plan state [] = refl
opened_replay plan state (entry ∷ log) = opened_replay plan (after state entry.worker (action_of plan (progress_in state entry.worker) entry.event)) log

-- ---- where it has stopped

spent_none : (plan : Plan) (progress : Progress) (steps : ℕ) → ((block : Block) → progress ≢ busy block) → IsSpent plan progress steps → steps ≡ 0
spent_none plan idle steps rests spent = spent
spent_none plan (busy block) steps rests spent = absurd (rests block refl)
spent_none plan over steps rests spent = spent

module _ (plan : Plan) (opening : List (Stored Listing)) (limit : ℕ) (state : State) (place : Place) (spent : ℕ) (sound : IsSound plan) (table : IsTable plan.table) (serial : IsSerial plan opening limit state place spent) (stopped : HasStopped state place) where
  rests_first : (block : Block) → progress_in state first_worker ≢ busy block
  rests_first block is =
      busy_goes_on plan state place block serial.off stopped
      (wants_what_is_next plan place (progress_in state first_worker) serial.off sound table serial.follows ∙ ap (λ (progress : Progress). next plan progress serial.off) is)

  pub rests : IsAtRest state.log
  rests zero block is = rests_first block is
  rests (suc worker) block is =
      let none = others_none plan (opened_state plan opening limit) (λ number. false) state.log (suc worker) (omega arith) serial.leads.runs in
      let same : progress_of [] ≡ busy block = ap progress_of (sym none) ∙ is in
      cc

  pub spends_least : spent ≤ stages_run plan idle state.log
  spends_least =
      let none = spent_none plan (progress_in state first_worker) serial.spent rests_first (blocks_are_spent plan place (progress_in state first_worker) serial.off serial.spent sound table serial.spends) in
      omega (arith, serial.bound, none)

  pub finished_is : (finished : Finished) → finished.outcomes ≡ outcomes_in state → finished.entries ≡ map stored_of state.cache.lines → finished.opened ≡ state.opened → finished.log ≡ state.log → IsFinished plan opening limit 1 finished
  finished_is finished outcomes entries opened log =
      let start : State = opened_state plan opening limit in
      let replays : state ≡ replay plan start finished.log = sym serial.leads.replays ∙ ap (λ (entries : List Entry). replay plan start entries) (sym log) in
      record {
        runs = subst (IsRunFrom plan 1 start (λ worker. false)) (sym log) serial.leads.runs;
        rest = subst IsAtRest (sym log) rests;
        outcomes = outcomes ∙ ap (λ (s : State). outcomes_in s) replays;
        entries = entries ∙ ap (λ (s : State). map stored_of s.cache.lines) replays;
        opened = opened ∙ ap (λ (s : State). s.opened) replays ∙ opened_replay plan start finished.log;
      }

-- the entries of a true state are a true opening
pub true_entries : (plan : Plan) (state : State) → IsTrueState plan state → IsTrueOpening plan (map stored_of state.cache.lines)
true_entries plan state true_is = All-map (λ (stored : Stored Listing). AreMeant plan stored.key.0 stored.chunks) stored_of state.cache.lines true_is.entries
