use Rattle.std.proofs.Common.{◌∙◌}
use Rattle.osb_accounts.proofs.Parts.{lines_in-taken}
use Rattle.osb_accounts.proofs.lines.Lines.read.Goals as goal

pub returns : goal.returns
returns c =
    let counted = rw (c.deref-2.ensures.value) at c.line_count.ensures.lines in
    record { lines = rw (c.deref.ensures.value) at c.in_ok-read_each.ensures ∙ lines_in-taken c.args.bytes.now _ _ c.in_ok-texts.ensures counted }
