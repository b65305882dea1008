use Rattle.std.proofs.Common.{◌≡◌, string_bytes}
use Rattle.std.specs.List.{flat_map}
use Rattle.osb_shape.specs.Places.{escaped_char}
use Rattle.osb_shape.proofs.places.escaped.Given as goal

abbrev pub invariant-loop-c : goal.invariant-loop-c
invariant-loop-c l = string_bytes l.text ≡ flat_map escaped_char l.yielded
