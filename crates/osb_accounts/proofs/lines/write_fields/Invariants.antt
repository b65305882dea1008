use Rattle.std.proofs.Common.{◌≡◌, ◌++◌, take}
use Rattle.osb_accounts.specs.Lines.{line_text}
use Rattle.osb_accounts.proofs.lines.write_fields.Given as goal

abbrev pub invariant-loop-place : goal.invariant-loop-place
invariant-loop-place l = l.out.items ≡ l.fn.out.items ++ line_text (take l.place l.fields)
