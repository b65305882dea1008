use Rattle.std.proofs.Common.{◌≡◌, drop}
use Rattle.std.specs.List.{flat_map}
use Rattle.std.specs.Map.{values_of}
use Rattle.osb_manifest.specs.Wanted.{input_uses, each_once}
use Rattle.osb_manifest.proofs.uses.Once.add_inputs.Given as goal

-- the digests so far, with those that the inputs that are left use
abbrev pub invariant-loop-input : goal.invariant-loop-input
invariant-loop-input l = each_once l.self (flat_map input_uses (values_of (drop l.input-index l.inputs))) ≡ each_once l.initial.self (flat_map input_uses (values_of l.inputs))
