-- What a job is replied by the shared state fits, and is true where the state is.
use Rattle.std.specs.Prelude.{◌≡◌, length, map, Some}
use Rattle.osb_tree.specs.declared.numbers.WorkerNo.{WorkerNo}
use Rattle.osb_recipe.specs.Plans.{IsSound}
use Rattle.osb_recipe.specs.Tables.{IsTable}
use Rattle.osb_recipe.specs.declared.plans.Plan.{Plan}
use Rattle.osb_job.specs.declared.actions.Action.{Action}
use Rattle.osb_job.specs.declared.places.Place.{Place}
use Rattle.osb_job.specs.Jobs.{wants, asked, Fits}
use Rattle.osb_job.specs.Moves.{Lives, IsTrue}
use Rattle.osb_state.specs.States.{State, part, gives}
use Rattle.osb_state.specs.Kept.{Valid}
use Rattle.osb_state.specs.Truth.{IsTrueState}

-- the state is one of this plan
pub record IsOfPlan (plan : Plan) (state : State) : Type 0 where
  pub deps : map (λ task. task.deps) state.board ≡ map (λ task. task.deps) plan.tasks
  pub marked : state.marked ≡ map (λ task. task.marked) plan.tasks
  pub keys : state.keys ≡ length plan.table.recipes

-- a reply fits, whatever the cache began with
abbrev pub RepliesFit : Type 0
RepliesFit =
    (plan : Plan) (state : State) (worker : WorkerNo) (place : Place) (action : Action) → IsSound plan → IsTable plan.table → Valid state → IsOfPlan plan state
    → Lives plan worker place (part state worker) → wants place ≡ Some action → Fits plan (asked place) (gives state worker action)

-- and is what the plan means in a true state
abbrev pub RepliesAreTrue : Type 0
RepliesAreTrue =
    (plan : Plan) (state : State) (worker : WorkerNo) (place : Place) (action : Action) → IsSound plan → IsTable plan.table → IsTrueState plan state
    → Lives plan worker place (part state worker) → wants place ≡ Some action → IsTrue plan (asked place) (gives state worker action)
