-- What later crates rest on.
use Rattle.std.specs.Prelude.{◌≡◌, Bool, Some}
use Rattle.osb_tree.specs.declared.numbers.WorkerNo.{WorkerNo}
use Rattle.osb_recipe.specs.Plans.{IsSound}
use Rattle.osb_recipe.specs.Tables.{IsTable}
use Rattle.osb_recipe.specs.declared.plans.Plan.{Plan}
use Rattle.osb_job.specs.declared.actions.Action.{Action}
use Rattle.osb_job.specs.declared.places.Place.{Place}
use Rattle.osb_job.specs.Scripts.{Progress, next, progress_of}
use Rattle.osb_job.specs.Allowed.{Part, Allowed, IsTruePart}
use Rattle.osb_job.specs.Jobs.{wants}
use Rattle.osb_job.specs.Moves.{Lives, Follows}

-- whatever a job was replied, what it wants is allowed
abbrev pub WantsWhatIsAllowed : Type 0
WantsWhatIsAllowed =
    (plan : Plan) (worker : WorkerNo) (place : Place) (part : Part) (action : Action) → IsSound plan → IsTable plan.table → Lives plan worker place part → wants place ≡ Some action → Allowed part action

-- where it was replied what the plan means, it wants what the script says
abbrev pub WantsWhatIsNext : Type 0
WantsWhatIsNext =
    (plan : Plan) (place : Place) (progress : Progress) (off : Bool) → IsSound plan → IsTable plan.table → Follows plan place progress off → wants place ≡ next plan progress off

-- where a worker's own part is what the plan means, the script's next action is allowed
abbrev pub NextIsAllowed : Type 0
NextIsAllowed =
    (plan : Plan) (part : Part) (off : Bool) (action : Action) → IsSound plan → IsTable plan.table → IsTruePart plan part → next plan (progress_of part.mine) off ≡ Some action → Allowed part action
