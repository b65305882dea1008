use Rattle.std.proofs.Common.{refl, ◌∙◌}
use Rattle.osb_accounts.proofs.Written.{bad_line-lines_in}
use Rattle.osb_accounts.proofs.files.lines_read.Goals as goal

pub returns-in-Some : goal.returns-in-Some
returns-in-Some c =
    let bad = c.in-Some.ensures.bad_line ∙ bad_line-lines_in c.args.file c.args.bytes.now in
    λ h. rw (← bad, c.requires) refl

pub returns-in_ok-read-in-None : goal.returns-in_ok-read-in-None
returns-in_ok-read-in-None c =
    let none = c.in-None.ensures.bad_line ∙ bad_line-lines_in c.args.file c.args.bytes.now in
    λ h. rw (← none, c.in_ok-read-in-None.ensures.lines) refl
