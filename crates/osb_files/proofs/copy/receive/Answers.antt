use Rattle.osb_files.proofs.Copies.{takes_over-from_clash}
use Rattle.osb_files.proofs.copy.receive.Goals as goal

pub make-requires-clause-fits : goal.make-requires-clause-fits
make-requires-clause-fits c = takes_over-from_clash _ _ _ c.in_ok-check_clash.ensures.tree c.in_ok-check_clash.ensures.ok
