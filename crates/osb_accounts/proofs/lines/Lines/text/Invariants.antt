use Rattle.std.proofs.Common.{◌≡◌, ◌++◌, drop}
use Rattle.osb_accounts.specs.Lines.{file_text}
use Rattle.osb_accounts.proofs.lines.Lines.text.Given as goal

abbrev pub invariant-loop-line : goal.invariant-loop-line
invariant-loop-line l = l.out.items ++ file_text (drop l.line-index l.line-items) ≡ file_text l.line-items
