use Rattle.std.proofs.Common.{◌≡◌, map, take}
use Rattle.osb_accounts.specs.Lines.{line_of}
use Rattle.osb_accounts.proofs.lines.read_each.Given as goal

abbrev pub invariant-loop-text : goal.invariant-loop-text
invariant-loop-text l = l.lines.items ≡ map (λ text. line_of text.now) (take l.text-index l.texts)
