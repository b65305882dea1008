-- Each entry of a run's log is that of an action which the script says, in the state that the front before it leads to.
use Rattle.std.proofs.Common.{◌≡◌, ℕ, Bool, List, [], ◌∷◌, ◌++◌, Some, refl, sym, ap, subst, ◌∙◌}
use Rattle.osb_recipe.specs.Plans.{IsSound}
use Rattle.osb_recipe.specs.Tables.{IsTable}
use Rattle.osb_recipe.specs.declared.plans.Plan.{Plan}
use Rattle.osb_job.specs.declared.actions.Action.{Action}
use Rattle.osb_job.specs.declared.entries.Entry.{Entry}
use Rattle.osb_job.specs.Moves.{event_of, puts_of}
use Rattle.osb_job.specs.Scripts.{next}
use Rattle.osb_state.specs.States.{State, progress_in, part, gives, after}
use Rattle.osb_state.specs.Truth.{IsTrueState}
use Rattle.osb_state.specs.Runs.{action_of, replay, IsRunFrom}
use Rattle.osb_state.proofs.TrueMoves.{true_stays}
use Rattle.osb_state.proofs.ToldActions.{one_event, entry_tells}

-- the action behind an entry
pub record IsActed (plan : Plan) (state : State) (entry : Entry) : Type 0 where
  pub off : Bool
  pub action : Action
  pub is : next plan (progress_in state entry.worker) off ≡ Some action
  pub event_is : event_of (puts_of (part state entry.worker)) action (gives state entry.worker action) ≡ Some entry.event
  pub tells : action_of plan (progress_in state entry.worker) entry.event ≡ action

abbrev pub Acting : Plan → State → List Entry → Type 0
Acting plan state log = (before rest : List Entry) (entry : Entry) → log ≡ before ++ entry ∷ rest → IsActed plan (replay plan state before) entry

acts_entry : (plan : Plan) (state : State) (entry : Entry) (log : List Entry) (action : Action) → IsActed plan state entry → action_of plan (progress_in state entry.worker) entry.event ≡ action → Acting plan (after state entry.worker action) log → Acting plan state (entry ∷ log)
acts_entry plan state entry log action acted tells acts [] rest one is =
    let same : entry ≡ one = cc in
    subst (IsActed plan state) same acted
acts_entry plan state entry log action acted tells acts (first ∷ before) rest one is =
    let same : entry ≡ first = cc in
    let left : log ≡ before ++ one ∷ rest = cc in
    let here : IsActed plan (replay plan (after state entry.worker (action_of plan (progress_in state entry.worker) entry.event)) before) one =
    subst (λ (a : Action). IsActed plan (replay plan (after state entry.worker a) before) one) (sym tells) (acts before rest one left) in
    subst (λ (e : Entry). IsActed plan (replay plan (after state e.worker (action_of plan (progress_in state e.worker) e.event)) before) one) same here

acts_none : (plan : Plan) (state : State) → Acting plan state []
acts_none plan state [] rest one is = absurd (cc)
acts_none plan state (first ∷ before) rest one is = absurd (cc)

pub run_acts : (plan : Plan) (workers : ℕ) (state : State) (refused : ℕ → Bool) (log : List Entry) → IsSound plan → IsTable plan.table → IsTrueState plan state → IsRunFrom plan workers state refused log → Acting plan state log
run_acts plan workers state refused log sound table true_so (IsRunFrom.ends s r) = acts_none plan s
run_acts plan workers state refused log sound table true_so (IsRunFrom.goes_on s r action entry left few is noted runs) =
    let tells = entry_tells plan s entry (r entry.worker.0) action sound table true_so is noted in
    let stays = true_stays plan s entry.worker (r entry.worker.0) action sound table true_so is in
    let event = one_event entry.worker (event_of (puts_of (part s entry.worker)) action (gives s entry.worker action)) entry noted in
    acts_entry plan s entry left action (record { off = r entry.worker.0; action = action; is = is; event_is = event; tells = tells }) tells
    (run_acts plan workers (after s entry.worker action) _ left sound table stays runs)
run_acts plan workers state refused log sound table true_so (IsRunFrom.gives_up s r worker left runs) =
    run_acts plan workers s _ left sound table true_so runs

-- ---- the replay of a front with one more entry

replay_more : (plan : Plan) (state : State) (front : List Entry) (entry : Entry)
    → replay plan state (front ++ entry ∷ []) ≡ after (replay plan state front) entry.worker (action_of plan (progress_in (replay plan state front) entry.worker) entry.event)
replay_more plan state [] entry = refl
replay_more plan state (first ∷ front) entry = replay_more plan (after state first.worker (action_of plan (progress_in state first.worker) first.event)) front entry

-- it is the state after the action behind that entry
pub replay_acted : (plan : Plan) (state : State) (front : List Entry) (entry : Entry) (acted : IsActed plan (replay plan state front) entry) → replay plan state (front ++ entry ∷ []) ≡ after (replay plan state front) entry.worker acted.action
replay_acted plan state front entry acted = replay_more plan state front entry ∙ ap (λ (a : Action). after (replay plan state front) entry.worker a) acted.tells
