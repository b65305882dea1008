use Rattle.std.proofs.Common.{◌≡◌, ◌++◌, drop, true}
use Rattle.std.specs.Option.{option_map}
use Rattle.std.specs.Result.{result_map_both}
use Rattle.osb_recipe.specs.Works.{input_trees}
use Rattle.osb_recipe.specs.Meanings.{inputs_at}
use Rattle.osb_tasks.specs.Ready.{has_inputs}
use Rattle.osb_tasks.proofs.stages.input_trees.Given as goal

-- the trees so far, with those of the inputs that are left
abbrev pub invariant-loop-name : goal.invariant-loop-name
invariant-loop-name l = record {
  ready : has_inputs l.found (drop l.name-index l.inputs) ≡ true;
  made : option_map (λ given. result_map_both (λ rest. l.trees.items ++ rest) (λ fault. fault) (input_trees given)) (inputs_at l.found l.blobs (drop l.name-index l.inputs)) ≡ option_map input_trees (inputs_at l.found l.blobs l.inputs);
}
