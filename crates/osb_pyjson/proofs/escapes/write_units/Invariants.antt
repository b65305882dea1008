use Rattle.std.proofs.Common.{◌≡◌, ◌++◌, string_bytes, take}
use Rattle.std.specs.List.{flat_map}
use Rattle.osb_pyjson.specs.PyText.{unit_escape}
use Rattle.osb_pyjson.proofs.escapes.write_units.Given as goal

abbrev pub invariant-loop-unit : goal.invariant-loop-unit
invariant-loop-unit l = string_bytes l.out ≡ string_bytes l.initial.out ++ flat_map unit_escape (take l.unit-index l.unit-items)
