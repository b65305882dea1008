use Rattle.std.proofs.Common.{◌≡◌, ◌++◌, take}
use Rattle.std.specs.Prelude.{string_bytes}
use Rattle.osb_ident.specs.Marks.{stage_lines}
use Rattle.osb_ident.proofs.inspect.write_pipeline.Given as goal

abbrev pub invariant-loop-place : goal.invariant-loop-place
invariant-loop-place l = string_bytes l.out ≡ string_bytes l.initial.out ++ stage_lines l.name 0 (take l.place l.ids)
