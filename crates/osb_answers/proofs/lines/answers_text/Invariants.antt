use Rattle.std.proofs.Common.{◌≡◌, take, string_bytes}
use Rattle.osb_answers.specs.Lines.{answers_text}
use Rattle.osb_answers.proofs.lines.answers_text.Given as goal

abbrev pub invariant-loop-before : goal.invariant-loop-before
invariant-loop-before l = string_bytes l.text ≡ answers_text 1 (take l.before l.answers)
