use Rattle.std.proofs.Common.{◌≢◌, ℕ, List, Option, Err, ap, ap₂, sym, ◌∙◌, arith}
use Rattle.std.specs.Prelude.{option_map, unwrap_or}
use Rattle.osb_tree.specs.Trees.{Listing}
use Rattle.osb_tree.specs.declared.faults.StageFault.TheVariants.{NoMemory}
use Rattle.osb_recipe.specs.Recipes.{Origin}
use Rattle.osb_recipe.specs.Works.{input_trees, tool_fault, staged}
use Rattle.osb_recipe.specs.Meanings.{build_at, inputs_at}
use Rattle.osb_recipe.specs.declared.references.InputRecipe.{InputRecipe}
use Rattle.osb_tasks.proofs.StageWorks.{runs_with, stops_with, steps_with}
use Rattle.osb_tasks.proofs.stages.stage_tree.Goals as goal

pub returns-in-Ok-clause-made : goal.returns-in-Ok-clause-made
returns-in-Ok-clause-made g c n =
    runs_with c.args.found.now c.args.blobs.now c.args.recipe.now c.in_ok-build.build c.in-Ok.trees.items c.args.base c.run_stage.result
    (ap (λ (r : Origin). build_at c.args.found.now r.build) (sym c.recipe.view_is) ∙ c.in_ok-build.ensures)
    (ap (λ (r : Origin). option_map input_trees (inputs_at c.args.found.now c.args.blobs.now r.inputs)) (sym c.recipe.view_is)
    ∙ ap (λ (inputs : List (List ℕ × InputRecipe)). option_map input_trees (inputs_at c.args.found.now c.args.blobs.now inputs)) (sym c.as_slice.ensures.items) ∙ c.in-Ok.ensures (λ e. cc))
    (c.run_stage.ensures.effect n
    ∙ ap₂ (λ (build : Option Listing) (trees : List (List ℕ × Listing)). staged c.args.recipe.now.kind build (record { trees = trees }) c.args.base) c.tree_in.ensures c.new.ensures.items)

pub returns-in-Err-clause-made : goal.returns-in-Err-clause-made
returns-in-Err-clause-made g c n =
    let apart : c.in-Err.fault ≢ NoMemory = λ e. n (ap Err (c.unrun_fault.ensures.memory e)) in
    stops_with c.args.found.now c.args.blobs.now c.args.recipe.now c.in_ok-build.build c.in-Err.fault c.unrun_fault.result c.args.base
    (ap (λ (r : Origin). build_at c.args.found.now r.build) (sym c.recipe.view_is) ∙ c.in_ok-build.ensures)
    (ap (λ (r : Origin). option_map input_trees (inputs_at c.args.found.now c.args.blobs.now r.inputs)) (sym c.recipe.view_is)
    ∙ ap (λ (inputs : List (List ℕ × InputRecipe)). option_map input_trees (inputs_at c.args.found.now c.args.blobs.now inputs)) (sym c.as_slice.ensures.items) ∙ c.in-Err.ensures (λ e. apart (cc)))
    (c.unrun_fault.ensures.fault (λ e. n (ap Err e)) ∙ ap (λ (build : Option Listing). unwrap_or (tool_fault c.args.recipe.now.kind build) c.in-Err.fault) c.tree_in-in-Err.ensures)

pub returns-in-Err-clause-steps : goal.returns-in-Err-clause-steps
returns-in-Err-clause-steps g c n =
    let apart : c.in-Err.fault ≢ NoMemory = λ e. n (ap Err (c.unrun_fault.ensures.memory e)) in
    let none = steps_with c.args.found.now c.args.blobs.now c.args.recipe.now c.in_ok-build.build (Err c.in-Err.fault)
    (ap (λ (r : Origin). build_at c.args.found.now r.build) (sym c.recipe.view_is) ∙ c.in_ok-build.ensures)
    (ap (λ (r : Origin). option_map input_trees (inputs_at c.args.found.now c.args.blobs.now r.inputs)) (sym c.recipe.view_is)
    ∙ ap (λ (inputs : List (List ℕ × InputRecipe)). option_map input_trees (inputs_at c.args.found.now c.args.blobs.now inputs)) (sym c.as_slice.ensures.items) ∙ c.in-Err.ensures (λ e. apart (cc))) in
    omega (arith, none)
