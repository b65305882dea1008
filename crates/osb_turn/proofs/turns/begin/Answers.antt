use Rattle.std.proofs.Common.{rules}
use Rattle.osb_turn.proofs.Steps.{begins}
use Rattle.osb_turn.proofs.turns.begin.Goals as goal

pub load-requires : goal.load-requires
load-requires g c = (search rules, search rules, begins _ _ _ _ _ _ _ _ _ c.requires.opening.0)
