use Rattle.std.proofs.Common.{rules}
use Rattle.osb_turn.proofs.Steps.{draws}
use Rattle.osb_turn.proofs.turns.draw.Goals as goal

pub fetch_add-requires : goal.fetch_add-requires
fetch_add-requires g c = (search rules, search rules, draws _ _ _ _ _ _ _ _ _ c.requires.idle)
