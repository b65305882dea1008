-- What turns keep.
use Rattle.std.specs.Prelude.{◌≡◌, List, slice_get, slice_set, Some}
use Rattle.osb_tree.specs.declared.numbers.WorkerNo.{WorkerNo}
use Rattle.osb_recipe.specs.Plans.{IsSound}
use Rattle.osb_recipe.specs.Tables.{IsTable}
use Rattle.osb_recipe.specs.declared.plans.Plan.{Plan}
use Rattle.osb_job.specs.declared.actions.Flag.{Flag}
use Rattle.osb_job.specs.declared.places.Place.{Place}
use Rattle.osb_state.specs.States.{State}
use Rattle.osb_state.specs.Runs.{Course, step}
use Rattle.osb_state.specs.Turns.{Turns, HasJobs, GoesBy}

-- a turn of a worker keeps what holds between turns, over every opening
abbrev pub JobsStay : Type 0
JobsStay =
    (plan : Plan) (worker : WorkerNo) (flag : Flag) (state state' : State) (places : List Place) (place place' : Place) → IsSound plan → IsTable plan.table → HasJobs plan state places
    → slice_get places worker.0 ≡ Some place → Turns plan worker flag state state' place place' → HasJobs plan state' (slice_set places worker.0 place')

-- over a true one it is the step of the course by the flag that was met
abbrev pub TurnsAreSteps : Type 0
TurnsAreSteps =
    (plan : Plan) (worker : WorkerNo) (flag : Flag) (course : Course) (state' : State) (places : List Place) (place place' : Place) → IsSound plan → IsTable plan.table → HasJobs plan course.state places → GoesBy plan course places
    → slice_get places worker.0 ≡ Some place → Turns plan worker flag course.state state' place place'
    → ((step plan course (worker, flag)).state ≡ state') × GoesBy plan (step plan course (worker, flag)) (slice_set places worker.0 place')
