-- How the outcomes of a plan's tasks are put beside the places of the pipelines that the tasks are.
use Rattle.std.specs.Prelude.{ℕ, ◌+◌, List, [], ◌∷◌, ◌++◌, slice_get, unwrap_or, Option, Some, None}
use Rattle.osb_tree.specs.declared.numbers.TaskNo.{TaskNo}
use Rattle.osb_recipe.specs.declared.outcomes.Outcome.{Outcome}
use Rattle.osb_recipe.specs.declared.outcomes.Outcome.TheVariants.{NoMemory}
use Rattle.osb_manifest.specs.Solo.{Built}

-- the outcome of a task; one that has none had no memory
abbrev pub outcome_of : List Outcome → TaskNo → Outcome
outcome_of outcomes number = unwrap_or (slice_get outcomes number.0) NoMemory

abbrev pub at_place : Option ℕ → Outcome → Built
at_place None outcome = []
at_place (Some place) outcome = (place, outcome) ∷ []

-- the outcomes of tasks, whose places stand in a list from a first one on
abbrev pub built_from : List Outcome → List ℕ → ℕ → List TaskNo → Built
built_from outcomes needed first [] = []
built_from outcomes needed first (number ∷ numbers) = at_place (slice_get needed first) (outcome_of outcomes number) ++ built_from outcomes needed (first + 1) numbers
