use Rattle.std.proofs.Common.{◌++◌, [], ◌∙◌, sym, ap}
use Rattle.std.specs.List.{flat_map}
use Rattle.std.specs.Map.{keys_of, values_of}
use Rattle.osb_manifest.specs.Wanted.{input_uses}
use Rattle.osb_manifest.proofs.Once.{once_turn}
use Rattle.osb_manifest.proofs.uses.Once.add_inputs.Goals as goal
use Rattle.osb_manifest.proofs.uses.Once.add_inputs.Goals.{in-Files+in_ok-add_items, in_default}

pub loop-input-preserved : goal.loop-input-preserved
loop-input-preserved c = elim c.match-input.branch [
  | in-Files+in_ok-add_items w ↦
      once_turn (λ entries. flat_map input_uses (values_of entries)) c.args.inputs.now c.loop-input.input-index c.loop-input-item.result c.loop-input-item.result (keys_of w.as_slice.result.now) c.loop-input.self c.match-input.self _
      (λ others. ap (λ input. input_uses input ++ flat_map input_uses (values_of others)) w.in-Files.is ∙ ap (λ files. keys_of files ++ flat_map input_uses (values_of others)) (sym w.as_slice.ensures.items))
      c.loop-input-test.true c.loop-input-item.is (w.self-is ∙ w.in_ok-add_items.ensures) c.loop-input.invariant
  | in_default w ↦
      once_turn (λ entries. flat_map input_uses (values_of entries)) c.args.inputs.now c.loop-input.input-index c.loop-input-item.result c.loop-input-item.result [] c.loop-input.self c.match-input.self _
      (λ others. ap (λ input. input_uses input ++ flat_map input_uses (values_of others)) w.in_default.is)
      c.loop-input-test.true c.loop-input-item.is w.self-is c.loop-input.invariant
]
