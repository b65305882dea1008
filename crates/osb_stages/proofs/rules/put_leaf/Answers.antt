use Rattle.osb_stages.proofs.Standing.{takes_over-leaf}
use Rattle.osb_stages.proofs.rules.put_leaf.Goals as goal

pub place-requires-clause-fits : goal.place-requires-clause-fits
place-requires-clause-fits c = takes_over-leaf _ _ _ c.in_ok-check_leaf.ensures.tree c.in_ok-check_leaf.ensures.ok
