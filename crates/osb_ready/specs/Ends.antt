-- How the tasks of a build ended.
use Rattle.std.specs.Prelude.{◌≡◌, ◌⊎◌, List, map, slice_get, Some}
use Rattle.osb_tree.specs.declared.numbers.TaskNo.{TaskNo}
use Rattle.osb_recipe.specs.declared.outcomes.Outcome.{Outcome}
use Rattle.osb_recipe.specs.declared.outcomes.Outcome.TheVariants.{NoMemory}
use Rattle.osb_recipe.specs.declared.plans.Plan.{Plan}
use Rattle.osb_manifest.specs.Solo.{solo}
use Rattle.osb_plan.specs.Bridge.{task_meaning}
use Rattle.osb_plan.specs.declared.builds.Build.{Build}

-- the tasks of a build mean what building its manifest alone gives, and each task ended with what it means or for want of
-- memory
pub record AreTaskEnds (plan : Plan) (build : Build) (numbers : List TaskNo) (outcomes : List Outcome) : Type 0 where
  pub mean : map (task_meaning plan) numbers ≡ map (λ built. Some built.1) (solo build.manifest build.needed build.blobs)
  pub ends : (number : TaskNo) (meaning outcome : Outcome) → task_meaning plan number ≡ Some meaning → slice_get outcomes number.0 ≡ Some outcome → (outcome ≡ meaning) ⊎ (outcome ≡ NoMemory)
