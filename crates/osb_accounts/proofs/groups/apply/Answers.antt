use Rattle.osb_accounts.proofs.WholeKept.{groups_keep, groups_made}
use Rattle.osb_accounts.proofs.groups.apply.Goals as goal

pub returns-clause-kept : goal.returns-clause-kept
returns-clause-kept c =
    groups_keep c.args.options.now c.args.tree _
    (groups_made c.args.options.now c.args.tree _ _ _ (c.in_ok-lines.ensures.lines (λ e. cc)) (rw c.as_slice.ensures.items at c.in_ok-add_groups.ensures.ok) c.in_ok-write_lines.ensures.ok)
