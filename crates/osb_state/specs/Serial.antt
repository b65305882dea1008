-- The turns of one worker alone.
use Rattle.std.specs.Prelude.{◌≡◌, ℕ, ◌+◌, ◌≤◌, ◌⊎◌, Bool, false, List, Some, None}
use Rattle.std.specs.Option.{option_map_or}
use Rattle.osb_tree.specs.Trees.{Listing, tree_size}
use Rattle.osb_tree.specs.declared.numbers.WorkerNo.{WorkerNo}
use Rattle.osb_recipe.specs.Plans.{IsSound}
use Rattle.osb_recipe.specs.Tables.{IsTable}
use Rattle.osb_recipe.specs.declared.plans.Plan.{Plan}
use Rattle.osb_cache.specs.Caches.{CanOpen}
use Rattle.osb_cache.specs.declared.answers.Stored.{Stored}
use Rattle.osb_job.specs.declared.actions.Action.TheVariants as actions
use Rattle.osb_job.specs.declared.actions.Flag.TheVariants.{Fine}
use Rattle.osb_job.specs.declared.places.Place.{Place}
use Rattle.osb_job.specs.declared.places.Place.TheVariants.{Outside}
use Rattle.osb_job.specs.Jobs.{wants, asked, taken}
use Rattle.osb_job.specs.Scripts.{idle}
use Rattle.osb_job.specs.Moves.{Follows}
use Rattle.osb_state.specs.States.{State, progress_in, is_ready, gives}
use Rattle.osb_state.specs.Schedules.{Turned}
use Rattle.osb_state.specs.Truth.{IsTrueOpening}
use Rattle.osb_state.specs.Openings.{opened_state}
use Rattle.osb_state.specs.RunLogs.{LeadsTo}
use Rattle.osb_state.specs.Spent.{Spends, stages_run}

abbrev pub first_worker : WorkerNo
first_worker = record { 0 = 0 }

-- the stages behind the reply to what a job wants
abbrev pub stages_due : Plan → WorkerNo → State → Place → ℕ
stages_due plan worker state place = option_map_or (λ action. (taken plan (asked place) (gives state worker action)).steps) (wants place) 0

-- the stages of a turn: none where it is no entry, and no more than are due
pub record RunsStages (plan : Plan) (worker : WorkerNo) (state state' : State) (place : Place) (steps steps' : ℕ) : Type 0 where
  pub none : state'.log ≡ state.log → steps' ≡ steps
  pub most : steps' ≤ steps + stages_due plan worker state place

-- turn by turn from a state on, with the number of stages run so far
pub data Goes (plan : Plan) (start : State) : State → Place → ℕ → Type 0 where
  begins : Goes plan start start Outside 0
  goes_on : (state state' : State) (place place' : Place) (steps steps' : ℕ) → Goes plan start state place steps → Turned plan first_worker Fine state state' place place' → RunsStages plan first_worker state state' place steps steps' → Goes plan start state' place' steps'

-- what they come to from a true opening: a run, by which the job stands where the script says; its stages are those of the
-- blocks that have ended, and of the one that has not
pub record IsSerial (plan : Plan) (opening : List (Stored Listing)) (limit : ℕ) (state : State) (place : Place) (steps : ℕ) : Type 0 where
  pub leads : LeadsTo plan 1 (opened_state plan opening limit) (λ worker. false) state.log state
  pub off : Bool
  pub follows : Follows plan place (progress_in state first_worker) off
  pub spent : ℕ
  pub spends : Spends plan place (progress_in state first_worker) off spent
  pub bound : steps ≤ stages_run plan idle state.log + spent

abbrev pub TurnsAreSerial : Type 0
TurnsAreSerial =
    (plan : Plan) (opening : List (Stored Listing)) (limit : ℕ) (state : State) (place : Place) (steps : ℕ) → IsSound plan → IsTable plan.table → CanOpen tree_size limit opening → IsTrueOpening plan opening
    → Goes plan (opened_state plan opening limit) state place steps → IsSerial plan opening limit state place steps

-- ---- the end of a worker

-- it has ended or left, or its claim has to wait
abbrev pub HasStopped : State → Place → Type 0
HasStopped state place = (wants place ≡ None) ⊎ ((wants place ≡ Some actions.Claim) × (is_ready state actions.Claim ≡ false))
