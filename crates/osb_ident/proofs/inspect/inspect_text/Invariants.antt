use Rattle.std.proofs.Common.{◌≡◌}
use Rattle.std.specs.Prelude.{string_bytes}
use Rattle.osb_ident.proofs.Lines.{lines_below}
use Rattle.osb_ident.proofs.inspect.inspect_text.Given as goal

abbrev pub invariant-loop-place : goal.invariant-loop-place
invariant-loop-place l = string_bytes l.out ≡ lines_below l.manifest l.ids.stages l.place
