-- The log of a schedule's run.
use Rattle.std.specs.Prelude.{◌≡◌, ℕ, ◌<◌, Bool, List, ◌++◌, All}
use Rattle.osb_tree.specs.declared.numbers.WorkerNo.{WorkerNo}
use Rattle.osb_recipe.specs.Plans.{IsSound}
use Rattle.osb_recipe.specs.Tables.{IsTable}
use Rattle.osb_recipe.specs.declared.plans.Plan.{Plan}
use Rattle.osb_job.specs.declared.actions.Flag.{Flag}
use Rattle.osb_job.specs.declared.entries.Entry.{Entry}
use Rattle.osb_state.specs.States.{State}
use Rattle.osb_state.specs.Runs.{Course, run, replay, IsRunFrom}
use Rattle.osb_state.specs.Truth.{IsTrueState}

-- from a state, and from where memory was refused in the blocks of its workers, this log is a run of so many workers, and
-- it leads to a state
pub record LeadsTo (plan : Plan) (workers : ℕ) (state : State) (refused : ℕ → Bool) (log : List Entry) (end : State) : Type 0 where
  pub runs : IsRunFrom plan workers state refused log
  pub replays : replay plan state log ≡ end
  pub logs : end.log ≡ state.log ++ log

-- each schedule of so many workers has the log of such a run
abbrev pub RunsHaveLogs : Type 0
RunsHaveLogs =
    (plan : Plan) (course : Course) (workers : ℕ) (schedule : List (WorkerNo × Flag)) → IsSound plan → IsTable plan.table → IsTrueState plan course.state → All (λ turn. turn.0.0 < workers) schedule
    → (log : List Entry) × LeadsTo plan workers course.state course.refused log (run plan course schedule).state
