use Rattle.std.proofs.Common.{◌≡◌, ◌++◌, length, drop}
use Rattle.std.specs.List.{flat_map}
use Rattle.osb_store.specs.Fields.{number}
use Rattle.osb_store.proofs.texts.put_numbers.Given as goal

abbrev pub invariant-loop-value : goal.invariant-loop-value
invariant-loop-value l = l.out.items ++ flat_map number (drop l.value-index l.numbers) ≡ l.fn.out.items ++ (number (length l.numbers) ++ flat_map number l.numbers)
