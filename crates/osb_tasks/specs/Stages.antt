-- What the stage of one key makes of a tree, with the trees that are found.
use Rattle.std.specs.Prelude.{ℕ, Option, Some, None, option_map, Result, Ok, Err}
use Rattle.osb_tree.specs.Trees.{Listing}
use Rattle.osb_tree.specs.declared.faults.StageFault.{StageFault}
use Rattle.osb_tree.specs.declared.numbers.Key.{Key}
use Rattle.osb_recipe.specs.Works.{Work, input_trees, does}
use Rattle.osb_recipe.specs.Meanings.{Found}
use Rattle.osb_recipe.specs.Tables.{TableData}
use Rattle.osb_tasks.specs.Running.{work_found}
use Rattle.osb_tasks.specs.declared.stages.Made.{Made}
use Rattle.osb_tasks.specs.declared.stages.Made.TheVariants.{Tree, Fault, Blocked}

abbrev pub made_of : Option (Result Listing StageFault) → Made
made_of None = Blocked
made_of (Some (Ok tree)) = Tree tree
made_of (Some (Err fault)) = Fault fault

-- blocked where something that the stage is made with has no tree
abbrev pub made_at : Found → TableData → Key → Listing → Made
made_at found table key base = made_of (option_map (λ work. does work base) (work_found found table.blobs table.recipes key))

abbrev pub one_if_ok : {A E : Type 0} → Result A E → ℕ
one_if_ok (Ok value) = 1
one_if_ok (Err error) = 0

-- a stage is run where there are trees for its inputs
abbrev pub steps_of : Option Work → ℕ
steps_of None = 0
steps_of (Some work) = one_if_ok (input_trees work.inputs)

abbrev pub steps_at : Found → TableData → Key → ℕ
steps_at found table key = steps_of (work_found found table.blobs table.recipes key)
