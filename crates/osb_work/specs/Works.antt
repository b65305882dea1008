-- What a worker of a crew has come to: its job goes by the worker's own entries in the turnstile's history.
use Rattle.std.specs.Prelude.{◌≡◌, ◌⊎◌, ℕ, Bool, true, List, [], ◌∷◌, slice_get, Some}
use Rattle.osb_tree.specs.declared.numbers.WorkerNo.{WorkerNo}
use Rattle.osb_recipe.specs.declared.plans.Plan.{Plan}
use Rattle.osb_turn.specs.declared.views.Entry.{Entry}
use Rattle.osb_turn.specs.Seats.{TurnstileState, SeatState, state_seen}
use Rattle.osb_job.specs.declared.actions.Action.{Action}
use Rattle.osb_job.specs.declared.actions.Reply.{Reply}
use Rattle.osb_job.specs.declared.places.Place.{Place}
use Rattle.osb_job.specs.declared.places.Place.TheVariants.{Outside, Gone}
use Rattle.osb_job.specs.Jobs.{wants, asked, taken, refused, IsPlace}
use Rattle.osb_state.specs.States.{State, is_ready, is_refusable, after}
use Rattle.osb_state.specs.Kept.{Valid}
use Rattle.osb_state.specs.Replies.{IsOfPlan}
use Rattle.osb_state.specs.Turns.{HasJob}

-- whether an action need not wait is the same for each worker
abbrev pub is_ready_for : State → WorkerNo → Action → Bool
is_ready_for state worker action = is_ready state action

-- an entry of the history: a turn at the shared state
abbrev pub Turn : Type 0
Turn = Entry Action Reply

-- ---- the course of a job

-- memory was refused to an action that never waits
pub record IsGivenUp (place place' : Place) : Type 0 where
  pub action : Action
  pub wanted : wants place ≡ Some action
  pub may : is_refusable action ≡ true
  pub ready : (state : State) → is_ready state action ≡ true
  pub is : place' ≡ refused (asked place)

-- between two turns a job stays where it is, or memory is refused to what it asked for
abbrev pub Stays : Place → Place → Type 0
Stays place place' = (place' ≡ place) ⊎ IsGivenUp place place'

-- a reply was taken, with memory for the work behind it or without
abbrev pub Takes : Plan → Place → Reply → Place → Type 0
Takes plan place reply place' = ((place' ≡ (taken plan (asked place) reply).place) × IsPlace place') ⊎ (place' ≡ refused (taken plan (asked place) reply).place)

-- these turns of a worker take its job from a place to another one, turn by turn
pub data Goes (plan : Plan) (worker : WorkerNo) (last : Place) : Place → List Turn → Type 0 where
  stops : Goes plan worker last last []
  goes_on : (place here place' : Place) (action : Action) (reply : Reply) (turns : List Turn) → Stays place here → wants here ≡ Some action → Takes plan here reply place' → Goes plan worker last place' turns
      → Goes plan worker last place (record { worker = worker; action = action; reply = reply } ∷ turns)

-- ---- a worker with its seat and its job

abbrev pub Stile : Type 0
Stile = TurnstileState State

abbrev pub Stool : Type 0
Stool = SeatState State Action Reply

-- what the state of a turnstile is opened with: every worker's job is at its beginning
pub record Begins (plan : Plan) (state : State) : Type 0 where
  pub valid : Valid state
  pub of_plan : IsOfPlan plan state
  pub jobs : (worker : ℕ) → HasJob plan state worker Outside

-- the job stands where the worker's own entries say, and where the state that the seat has seen has it
pub record Works (plan : Plan) (turnstile : Stile) (seat : Stool) (place : Place) : Type 0 where
  pub has : HasJob plan (state_seen after turnstile seat) seat.worker.0 place
  pub last : Place
  pub goes : Goes plan seat.worker last Outside seat.mine
  pub stays : Stays last place

-- a job has asked for an action that never waits
pub record HasAsked (plan : Plan) (turnstile : Stile) (seat : Stool) (action : Action) (place : Place) : Type 0 where
  pub before : Place
  pub works : Works plan turnstile seat before
  pub wanted : wants before ≡ Some action
  pub ready : (state : State) → is_ready state action ≡ true
  pub is : place ≡ asked before

-- ---- the end

abbrev pub IsAway : Place → Type 0
IsAway place = (place ≡ Outside) ⊎ (place ≡ Gone)

-- the worker's entries take its job from its beginning to an end, which is not amid a task
pub record HasEnded (plan : Plan) (seat : Stool) : Type 0 where
  pub last : Place
  pub goes : Goes plan seat.worker last Outside seat.mine
  pub away : IsAway last

abbrev pub HaveEnded : Plan → List Stool → Type 0
HaveEnded plan seats = (number : ℕ) (seat : Stool) → slice_get seats number ≡ Some seat → HasEnded plan seat
