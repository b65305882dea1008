use Rattle.osb_answers.proofs.Texts.{text_on}
use Rattle.osb_answers.proofs.lines.answers_text.Goals as goal

pub loop-before-preserved : goal.loop-before-preserved
loop-before-preserved c =
    text_on c.args.answers.now c.loop-before.before c.index-answers-before.result _ _ c.loop-before-test.true c.index-answers-before.is c.loop-before.invariant c.in_ok-add_lines.ensures.lines
