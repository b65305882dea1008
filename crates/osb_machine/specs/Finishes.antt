-- What is left at the end, as a function of the log.
use Rattle.std.specs.Prelude.{◌≡◌, ℕ, false, List, map, slice_get, Some, unwrap_or}
use Rattle.osb_tree.specs.Trees.{Listing}
use Rattle.osb_recipe.specs.declared.outcomes.Outcome.{Outcome}
use Rattle.osb_recipe.specs.declared.outcomes.Outcome.TheVariants as ends
use Rattle.osb_recipe.specs.declared.plans.Plan.{Plan}
use Rattle.osb_board.specs.Boards.{outcomes, outcome_at}
use Rattle.osb_cache.specs.Caches.{stored_of}
use Rattle.osb_cache.specs.declared.answers.Stored.{Stored}
use Rattle.osb_state.specs.States.{State}
use Rattle.osb_state.specs.Openings.{opened_state}
use Rattle.osb_state.specs.Runs.{replay, IsRunFrom}
use Rattle.osb_state.specs.Truth.{IsEnd}
use Rattle.osb_state.specs.Filling.{IsAtRest}
use Rattle.osb_machine.specs.declared.shares.Finished.{Finished}

-- the outcomes of a board's tasks: no memory where a task is not done
abbrev pub outcomes_in : State → List Outcome
outcomes_in state = map (λ outcome. unwrap_or outcome ends.NoMemory) (outcomes state.board)

-- the log is a run of so many workers that are all at rest after it; tasks have the outcomes that it gave them, and the
-- cache the entries that it left, first the one that was used first
pub record IsFinished (plan : Plan) (opening : List (Stored Listing)) (limit workers : ℕ) (finished : Finished) : Type 0 where
  pub runs : IsRunFrom plan workers (opened_state plan opening limit) (λ worker. false) finished.log
  pub rest : IsAtRest finished.log
  pub outcomes : finished.outcomes ≡ outcomes_in (replay plan (opened_state plan opening limit) finished.log)
  pub entries : finished.entries ≡ map stored_of (replay plan (opened_state plan opening limit) finished.log).cache.lines
  pub opened : finished.opened ≡ (opened_state plan opening limit).opened

-- tasks ended with what their chains mean, or for want of memory
abbrev pub AreMeantEnds : Plan → List Outcome → Type 0
AreMeantEnds plan outcomes = (task : ℕ) (outcome : Outcome) → slice_get outcomes task ≡ Some outcome → IsEnd plan task outcome

abbrev pub HasMeantEnds : Plan → State → Type 0
HasMeantEnds plan state = (task : ℕ) (outcome : Outcome) → outcome_at state.board task ≡ Some outcome → IsEnd plan task outcome
