use Rattle.osb_state.proofs.ValidMoves.{valid_stays}
use Rattle.osb_state.proofs.laws.valid_stays.Goals as goal

pub returns : goal.returns
returns c = record { law = valid_stays }
