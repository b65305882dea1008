-- What a run from a true opening leaves.
use Rattle.std.proofs.Common.{◌≡◌, ℕ, ◌≤◌, false, List, [], Option, Some, None, inr, refl, sym, ap, subst, ◌∙◌, append-nil, unwrap_or}
use Rattle.std.specs.Prelude.{slice_get, option_map, option_and_then}
use Rattle.std.proofs.lemmas.Option.{slice_get-map}
use Rattle.osb_tree.specs.Trees.{Listing, tree_size}
use Rattle.osb_recipe.specs.Plans.{IsSound}
use Rattle.osb_recipe.specs.Tables.{IsTable}
use Rattle.osb_recipe.specs.declared.outcomes.Outcome.{Outcome}
use Rattle.osb_recipe.specs.declared.outcomes.Outcome.TheVariants as ends
use Rattle.osb_recipe.specs.declared.plans.Plan.{Plan}
use Rattle.osb_board.specs.declared.tasks.Task.{Task}
use Rattle.osb_board.specs.Boards.{outcome_of, outcomes, outcome_at}
use Rattle.osb_cache.specs.Caches.{CanOpen}
use Rattle.osb_cache.specs.declared.answers.Stored.{Stored}
use Rattle.osb_state.specs.States.{State}
use Rattle.osb_state.specs.Openings.{opened_state}
use Rattle.osb_state.specs.RunLogs.{LeadsTo}
use Rattle.osb_state.specs.KeptLogs.{IsKeptLog}
use Rattle.osb_state.specs.Filling.{IsAtRest, HasMemory, IsFilled, size_of_all}
use Rattle.osb_state.specs.Truth.{IsEnd, IsTrueOpening, IsTrueState}
use Rattle.osb_state.proofs.TrueRuns.{runs_keep}
use Rattle.osb_machine.specs.Finishes.{AreMeantEnds, HasMeantEnds, outcomes_in}
use Rattle.osb_state.proofs.RunsKept.{runs_are_kept}
use Rattle.osb_state.proofs.FilledRuns.{runs_fill}

-- ---- ends of tasks

meant_end : (plan : Plan) (task : ℕ) (outcome : Outcome) (got : Option Outcome) → ((end : Outcome) → got ≡ Some end → IsEnd plan task end) → Some (unwrap_or got ends.NoMemory) ≡ Some outcome → IsEnd plan task outcome
meant_end plan task outcome None each is =
    let same : outcome ≡ ends.NoMemory = cc in
    inr same
meant_end plan task outcome (Some end) each is =
    let same : end ≡ outcome = cc in
    subst (IsEnd plan task) same (each end refl)

meant_in : (plan : Plan) (board : List (Task Outcome)) (task : ℕ) (outcome : Outcome) (found : Option (Task Outcome)) → slice_get board task ≡ found → ((end : Outcome) → outcome_at board task ≡ Some end → IsEnd plan task end)
    → option_map (λ end. unwrap_or end ends.NoMemory) (option_map (λ (t : Task Outcome). outcome_of t.state) found) ≡ Some outcome → IsEnd plan task outcome
meant_in plan board task outcome None at each is = cc
meant_in plan board task outcome (Some found) at each is =
    meant_end plan task outcome (outcome_of found.state) (λ end ended. each end (ap (option_and_then (λ (t : Task Outcome). outcome_of t.state)) at ∙ ended)) is

pub are_meant : (plan : Plan) (state : State) → HasMeantEnds plan state → AreMeantEnds plan (outcomes_in state)
are_meant plan state each task outcome is =
    meant_in plan state.board task outcome (slice_get state.board task) refl (each task)
    (sym (ap (option_map (λ (end : Option Outcome). unwrap_or end ends.NoMemory)) (slice_get-map (λ (t : Task Outcome). outcome_of t.state) state.board task)) ∙ sym (slice_get-map (λ (end : Option Outcome). unwrap_or end ends.NoMemory) (outcomes state.board) task) ∙ is)

-- ---- after a log that leads to a state

module _ (plan : Plan) (opening : List (Stored Listing)) (limit workers : ℕ) (state : State) (sound : IsSound plan) (table : IsTable plan.table) (can : CanOpen tree_size limit opening) (true_is : IsTrueOpening plan opening)
    (leads : LeadsTo plan workers (opened_state plan opening limit) (λ worker. false) state.log state) where
  pub true_end : IsTrueState plan state
  true_end =
      subst (IsTrueState plan) leads.replays
      ((runs_keep plan opening limit workers state.log sound table can true_is leads.runs).front state.log [] (sym (append-nil state.log)))

  pub kept_end : IsKeptLog plan opening limit state.log
  kept_end = runs_are_kept plan opening limit workers state.log sound table can true_is leads.runs

  pub filled_end : size_of_all plan opening ≤ limit → HasMemory state.log → IsAtRest state.log → IsFilled plan opening limit state.log
  filled_end small memory rest = runs_fill plan opening limit workers state.log sound table can true_is leads.runs small memory rest
