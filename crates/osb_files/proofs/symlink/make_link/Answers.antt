use Rattle.osb_stages.proofs.Standing.{takes_over-nothing}
use Rattle.osb_files.proofs.Giving.{none-found}
use Rattle.osb_files.proofs.symlink.make_link.Goals as goal

pub place-requires-clause-fits : goal.place-requires-clause-fits
place-requires-clause-fits c =
    takes_over-nothing c.args.tree.now c.args.item.now.link c.in_ok-link.field-0 c.get.ensures.tree (none-found _ _ c.get.ensures.node c.if-is_some.ensures)
