use Rattle.std.proofs.Common.{◌≡◌, ◌++◌, take, string_bytes}
use Rattle.osb_answers.specs.declared.answers.Answer.TheVariants.{Exports}
use Rattle.osb_answers.specs.Lines.{answer_lines}
use Rattle.osb_answers.proofs.lines.add_export_lines.Given as goal

abbrev pub invariant-loop-exported : goal.invariant-loop-exported
invariant-loop-exported l = string_bytes l.text ≡ string_bytes l.fn.text ++ answer_lines l.place (Exports (take l.exported-index l.exports))
