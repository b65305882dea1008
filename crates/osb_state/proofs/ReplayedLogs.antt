-- The replay of a front of a run's log has that front as its log.
use Rattle.std.proofs.Common.{◌≡◌, ℕ, Bool, List, [], ◌∷◌, ◌++◌, sym, ap, subst, ◌∙◌, append-nil, append_assoc}
use Rattle.osb_recipe.specs.Plans.{IsSound}
use Rattle.osb_recipe.specs.Tables.{IsTable}
use Rattle.osb_recipe.specs.declared.plans.Plan.{Plan}
use Rattle.osb_job.specs.declared.actions.Action.{Action}
use Rattle.osb_job.specs.declared.entries.Entry.{Entry}
use Rattle.osb_state.specs.States.{State, progress_in, entries_of, after}
use Rattle.osb_state.specs.Truth.{IsTrueState}
use Rattle.osb_state.specs.Runs.{action_of, replay, IsRunFrom}
use Rattle.osb_state.proofs.TrueMoves.{true_stays}
use Rattle.osb_state.proofs.ToldActions.{entry_tells}

abbrev Logging : Plan → State → List Entry → Type 0
Logging plan state log = (before rest : List Entry) → log ≡ before ++ rest → (replay plan state before).log ≡ state.log ++ before

logs_entry : (plan : Plan) (state : State) (entry : Entry) (log : List Entry) (action : Action) → entries_of state entry.worker action ≡ entry ∷ [] → action_of plan (progress_in state entry.worker) entry.event ≡ action → Logging plan (after state entry.worker action) log → Logging plan state (entry ∷ log)
logs_entry plan state entry log action noted tells logs [] rest is = sym (append-nil state.log)
logs_entry plan state entry log action noted tells logs (first ∷ before) rest is =
    let same : entry ≡ first = cc in
    let left : log ≡ before ++ rest = cc in
    let whole : state.log ++ (entries_of state entry.worker action ++ before) ≡ state.log ++ entry ∷ before = ap (λ (xs : List Entry). state.log ++ (xs ++ before)) noted in
    let here : (replay plan (after state entry.worker action) before).log ≡ state.log ++ entry ∷ before = logs before rest left ∙ append_assoc state.log (entries_of state entry.worker action) before ∙ whole in
    let told : (replay plan (after state entry.worker (action_of plan (progress_in state entry.worker) entry.event)) before).log ≡ state.log ++ entry ∷ before =
    subst (λ (a : Action). (replay plan (after state entry.worker a) before).log ≡ state.log ++ entry ∷ before) (sym tells) here in
    subst (λ (e : Entry). (replay plan (after state e.worker (action_of plan (progress_in state e.worker) e.event)) before).log ≡ state.log ++ e ∷ before) same told

logs_none : (plan : Plan) (state : State) → Logging plan state []
logs_none plan state [] rest is = sym (append-nil state.log)
logs_none plan state (first ∷ before) rest is = cc

pub run_logs : (plan : Plan) (workers : ℕ) (state : State) (refused : ℕ → Bool) (log : List Entry) → IsSound plan → IsTable plan.table → IsTrueState plan state → IsRunFrom plan workers state refused log → Logging plan state log
run_logs plan workers state refused log sound table true_so (IsRunFrom.ends s r) = logs_none plan s
run_logs plan workers state refused log sound table true_so (IsRunFrom.goes_on s r action entry left few is noted runs) =
    let tells = entry_tells plan s entry (r entry.worker.0) action sound table true_so is noted in
    let stays = true_stays plan s entry.worker (r entry.worker.0) action sound table true_so is in
    logs_entry plan s entry left action noted tells (run_logs plan workers (after s entry.worker action) _ left sound table stays runs)
run_logs plan workers state refused log sound table true_so (IsRunFrom.gives_up s r worker left runs) =
    run_logs plan workers s _ left sound table true_so runs
