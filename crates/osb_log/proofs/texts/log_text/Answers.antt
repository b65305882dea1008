use Rattle.std.proofs.Common.{◌∙◌}
use Rattle.osb_log.specs.Texts.{opened_line}
use Rattle.osb_log.proofs.Lines.{entry_lines-more}
use Rattle.osb_log.proofs.texts.log_text.Goals as goal

pub loop-place-preserved : goal.loop-place-preserved
loop-place-preserved c =
    c.in_ok-write_entry.ensures
    ∙ entry_lines-more (opened_line c.args.opened.now) _ c.args.log.now c.loop-place.place _ c.loop-place-test.true c.loop-place.invariant
