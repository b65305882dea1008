use Rattle.std.proofs.Common.{◌≡◌, ◌++◌, drop}
use Rattle.std.specs.List.{flat_map}
use Rattle.osb_recipe.specs.Plans.{input_keys}
use Rattle.osb_plan.proofs.tasks.add_inputs.Given as goal

abbrev pub invariant-loop-input : goal.invariant-loop-input
invariant-loop-input l = l.needs.items ++ flat_map (λ input. input_keys input.1) (drop l.input-index l.inputs) ≡ l.fn.needs.items ++ flat_map (λ input. input_keys input.1) l.inputs
