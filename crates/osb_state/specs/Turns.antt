-- What a turn of a worker is, with its job, and what holds of state and jobs between turns.
use Rattle.std.specs.Prelude.{◌≡◌, ℕ, true, false, List, slice_get, Some, None}
use Rattle.osb_tree.specs.declared.numbers.WorkerNo.{WorkerNo}
use Rattle.osb_recipe.specs.declared.plans.Plan.{Plan}
use Rattle.osb_job.specs.declared.actions.Action.{Action}
use Rattle.osb_job.specs.declared.actions.Flag.{Flag}
use Rattle.osb_job.specs.declared.actions.Flag.TheVariants.{Fine, ActRefused, WorkRefused}
use Rattle.osb_job.specs.declared.places.Place.{Place}
use Rattle.osb_job.specs.Jobs.{wants, asked, taken, refused, CanWant, IsOf, IsPlace}
use Rattle.osb_job.specs.Moves.{Lives, Follows}
use Rattle.osb_state.specs.States.{State, part, progress_in, is_ready, is_refusable, gives, after}
use Rattle.osb_state.specs.Kept.{Valid}
use Rattle.osb_state.specs.Truth.{IsTrueState}
use Rattle.osb_state.specs.Replies.{IsOfPlan}
use Rattle.osb_state.specs.Runs.{Course}

-- ---- one turn of a worker, by the flag that was met

-- the worker has ended or left, or its claim is idle: nothing changes
pub record Stands (state state' : State) (place place' : Place) : Type 0 where
  pub state_is : state' ≡ state
  pub place_is : place' ≡ asked place

-- memory was refused to the action
pub record GivesUp (state state' : State) (place place' : Place) (action : Action) : Type 0 where
  pub may : is_refusable action ≡ true
  pub state_is : state' ≡ state
  pub place_is : place' ≡ refused (asked place)

-- the action is played and its reply taken
pub record Plays (plan : Plan) (worker : WorkerNo) (state state' : State) (place place' : Place) (action : Action) : Type 0 where
  pub state_is : state' ≡ after state worker action
  pub place_is : place' ≡ (taken plan (asked place) (gives state worker action)).place
  pub is : IsPlace place'

-- the same, where memory is refused to the work behind the reply
pub record BreaksOff (plan : Plan) (worker : WorkerNo) (state state' : State) (place place' : Place) (action : Action) : Type 0 where
  pub state_is : state' ≡ after state worker action
  pub place_is : place' ≡ refused (taken plan (asked place) (gives state worker action)).place

abbrev pub Acts : Plan → WorkerNo → Flag → State → State → Place → Place → Action → Type 0
Acts plan worker Fine state state' place place' action = Plays plan worker state state' place place' action
Acts plan worker ActRefused state state' place place' action = GivesUp state state' place place' action
Acts plan worker WorkRefused state state' place place' action = BreaksOff plan worker state state' place place' action

pub data Turns (plan : Plan) (worker : WorkerNo) (flag : Flag) (state state' : State) (place place' : Place) : Type 0 where
  ended : wants place ≡ None → Stands state state' place place' → Turns plan worker flag state state' place place'
  idles : (action : Action) → wants place ≡ Some action → is_ready state action ≡ false → Stands state state' place place' → Turns plan worker flag state state' place place'
  acts : (action : Action) → wants place ≡ Some action → is_ready state action ≡ true → Acts plan worker flag state state' place place' action → Turns plan worker flag state state' place place'

-- ---- between turns

-- a worker's job stands where the state's own part of it says
pub record HasJob (plan : Plan) (state : State) (worker : ℕ) (place : Place) : Type 0 where
  pub asks : CanWant place
  pub same : IsOf plan place
  pub is : IsPlace place
  pub lives : Lives plan (record { 0 = worker }) place (part state (record { 0 = worker }))

pub record HasJobs (plan : Plan) (state : State) (places : List Place) : Type 0 where
  pub valid : Valid state
  pub of_plan : IsOfPlan plan state
  pub jobs : (worker : ℕ) (place : Place) → slice_get places worker ≡ Some place → HasJob plan state worker place

-- and in a true state each job goes by the script, as the course has it
pub record GoesBy (plan : Plan) (course : Course) (places : List Place) : Type 0 where
  pub true_is : IsTrueState plan course.state
  pub jobs : (worker : ℕ) (place : Place) → slice_get places worker ≡ Some place → Follows plan place (progress_in course.state (record { 0 = worker })) (course.refused worker)
