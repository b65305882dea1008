use Rattle.std.proofs.Common.{◌≡◌, ◌++◌, length, drop}
use Rattle.std.specs.List.{flat_map}
use Rattle.osb_store.specs.Fields.{number}
use Rattle.osb_store.specs.Texts.{input_text}
use Rattle.osb_store.proofs.texts.put_inputs.Given as goal

abbrev pub invariant-loop-name : goal.invariant-loop-name
invariant-loop-name l = l.out.items ++ flat_map input_text (drop l.name-index l.inputs) ≡ l.fn.out.items ++ (number (length l.inputs) ++ flat_map input_text l.inputs)
