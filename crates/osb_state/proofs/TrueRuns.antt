-- The states of a run are true, and are those of the replay.
use Rattle.std.proofs.Common.{◌≡◌, ℕ, Bool, false, List, [], ◌∷◌, ◌++◌, sym, subst}
use Rattle.osb_recipe.specs.Plans.{IsSound}
use Rattle.osb_recipe.specs.Tables.{IsTable}
use Rattle.osb_recipe.specs.declared.plans.Plan.{Plan}
use Rattle.osb_job.specs.declared.actions.Action.{Action}
use Rattle.osb_job.specs.declared.entries.Entry.{Entry}
use Rattle.osb_state.specs.States.{State, progress_in, after}
use Rattle.osb_state.specs.Truth.{IsTrueState, RunsKeep}
use Rattle.osb_state.specs.Openings.{opened_state}
use Rattle.osb_state.specs.Runs.{action_of, replay, IsRunFrom}
use Rattle.osb_state.proofs.TrueMoves.{true_stays}
use Rattle.osb_state.proofs.TrueOpenings.{true_opens}
use Rattle.osb_state.proofs.ReplayedLogs.{run_logs}
use Rattle.osb_state.proofs.ToldActions.{entry_tells}

-- every front of these entries is replayed to a true state
abbrev Keeping : Plan → State → List Entry → Type 0
Keeping plan state log = (before rest : List Entry) → log ≡ before ++ rest → IsTrueState plan (replay plan state before)

-- the first entry tells the action that leads to the rest
keeps_entry : (plan : Plan) (state : State) (entry : Entry) (log : List Entry) (action : Action) → IsTrueState plan state → action_of plan (progress_in state entry.worker) entry.event ≡ action → Keeping plan (after state entry.worker action) log → Keeping plan state (entry ∷ log)
keeps_entry plan state entry log action true_so tells keeps [] rest is = true_so
keeps_entry plan state entry log action true_so tells keeps (first ∷ before) rest is =
    let same : entry ≡ first = cc in
    let left : log ≡ before ++ rest = cc in
    let here : IsTrueState plan (replay plan (after state entry.worker (action_of plan (progress_in state entry.worker) entry.event)) before) =
    subst (λ (a : Action). IsTrueState plan (replay plan (after state entry.worker a) before)) (sym tells) (keeps before rest left) in
    subst (λ (e : Entry). IsTrueState plan (replay plan (after state e.worker (action_of plan (progress_in state e.worker) e.event)) before)) same here

keeps_none : (plan : Plan) (state : State) → IsTrueState plan state → Keeping plan state []
keeps_none plan state true_so [] rest is = true_so
keeps_none plan state true_so (first ∷ before) rest is = cc

run_keeps : (plan : Plan) (workers : ℕ) (state : State) (refused : ℕ → Bool) (log : List Entry) → IsSound plan → IsTable plan.table → IsTrueState plan state → IsRunFrom plan workers state refused log → Keeping plan state log
run_keeps plan workers state refused log sound table true_so (IsRunFrom.ends s r) = keeps_none plan s true_so
run_keeps plan workers state refused log sound table true_so (IsRunFrom.goes_on s r action entry left few is noted runs) =
    let tells = entry_tells plan s entry (r entry.worker.0) action sound table true_so is noted in
    let stays = true_stays plan s entry.worker (r entry.worker.0) action sound table true_so is in
    keeps_entry plan s entry left action true_so tells (run_keeps plan workers (after s entry.worker action) _ left sound table stays runs)
run_keeps plan workers state refused log sound table true_so (IsRunFrom.gives_up s r worker left runs) =
    run_keeps plan workers s _ left sound table true_so runs

pub runs_keep : RunsKeep
runs_keep plan opening limit workers log sound table can is runs =
    let begins = true_opens plan opening limit sound table can is in
    record {
      front = run_keeps plan workers (opened_state plan opening limit) (λ (worker : ℕ). false) log sound table begins runs;
      logs = run_logs plan workers (opened_state plan opening limit) (λ (worker : ℕ). false) log sound table begins runs;
    }
