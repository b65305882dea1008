-- A stage that can run, what it makes of a tree, and what several make, one after another.
use Rattle.std.specs.Prelude.{ℕ, ◌+◌, List, [], ◌∷◌, Option, Some, None, option_map, Result, Ok, Err}
use Rattle.osb_tree.specs.Trees.{Listing, empty_tree}
use Rattle.osb_tree.specs.declared.faults.Inputs.{Inputs}
use Rattle.osb_tree.specs.declared.faults.PutFault.{PutFault}
use Rattle.osb_tree.specs.declared.faults.StageFault.{StageFault}
use Rattle.osb_tree.specs.declared.faults.StageFault.TheVariants.{ToolMissing, TreeTooLarge}
use Rattle.osb_stages.specs.Rules.{Effect, unless}
use Rattle.osb_recipe.specs.Kinds.{effect}
use Rattle.osb_recipe.specs.Tools.{missing_tool}
use Rattle.osb_recipe.specs.FilesTrees.{files_tree}
use Rattle.osb_recipe.specs.declared.kinds.StageKind.{StageKind}
use Rattle.osb_recipe.specs.declared.outcomes.Outcome.{Outcome}
use Rattle.osb_recipe.specs.declared.outcomes.Outcome.TheVariants as outcomes

-- what an input gives a stage: the tree of a pipeline, or the bytes of items
pub data Given : Type 0 where
  a_tree : Listing → Given
  some_items : List (List ℕ) → Given

-- a stage that can run: what it is, the tree that it runs in, if any, and its inputs by name
pub record Work : Type 0 where
  pub kind : StageKind
  pub build : Option Listing
  pub inputs : List (List ℕ × Given)

-- ---- one stage

abbrev pub ok_or_large : Result Listing PutFault → Result Listing StageFault
ok_or_large (Ok listing) = Ok listing
ok_or_large (Err fault) = Err TreeTooLarge

abbrev pub given_tree : Given → Result Listing StageFault
given_tree (a_tree listing) = Ok listing
given_tree (some_items items) = ok_or_large (files_tree items)

abbrev pub and_then : {A B E : Type 0} → Result A E → (A → Result B E) → Result B E
and_then (Ok value) next = next value
and_then (Err error) next = Err error

-- the trees of a stage's inputs, by name, or the fault of the first that has none
abbrev pub input_trees : List (List ℕ × Given) → Result (List (List ℕ × Listing)) StageFault
input_trees [] = Ok []
input_trees (input ∷ inputs) = and_then (given_tree input.1) (λ tree. and_then (input_trees inputs) (λ others. Ok ((input.0, tree) ∷ others)))

abbrev pub tool_fault : StageKind → Option Listing → Option StageFault
tool_fault kind build = option_map ToolMissing (missing_tool kind build)

-- what a stage with the trees of its inputs makes of a tree: its tools are looked at first
abbrev pub staged : StageKind → Option Listing → Inputs → Listing → Effect
staged kind build inputs base = unless (tool_fault kind build) (effect kind inputs base)

-- the same where the trees of its inputs are made first: they come behind the tools, and before the effect
abbrev pub does : Work → Listing → Effect
does work base = unless (tool_fault work.kind work.build) (and_then (input_trees work.inputs) (λ trees. effect work.kind (record { trees = trees }) base))

-- ---- several stages

abbrev pub tree_of : Outcome → Option Listing
tree_of (outcomes.Tree listing) = Some listing
tree_of outcome = None

abbrev pub after_work : ℕ → (Listing → Outcome) → Effect → Outcome
after_work place later (Ok listing) = later listing
after_work place later (Err fault) = outcomes.Fault place fault

-- what stages make, one after another, the first of which has a place: a tree, or the first fault
abbrev pub run_from : ℕ → List Work → Listing → Outcome
run_from place [] base = outcomes.Tree base
run_from place (work ∷ works) base = after_work place (run_from (place + 1) works) (does work base)

-- from the empty tree, with places from 0; blocked where a stage can't run
abbrev pub run_all : Option (List Work) → Outcome
run_all None = outcomes.Blocked
run_all (Some works) = run_from 0 works empty_tree
