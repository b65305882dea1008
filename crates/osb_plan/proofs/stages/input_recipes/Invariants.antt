use Rattle.std.proofs.Common.{◌≡◌, take, map}
use Rattle.osb_plan.specs.Planning.{input_recipe}
use Rattle.osb_plan.proofs.stages.input_recipes.Given as goal

abbrev pub invariant-loop-name : goal.invariant-loop-name
invariant-loop-name l = l.recipes.items ≡ map (λ input. (input.0, input_recipe l.gathered l.chains l.table.blobs input.1)) (take l.name-index l.inputs)
