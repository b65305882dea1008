use Rattle.osb_state.proofs.OwnParts.{own_moves}
use Rattle.osb_state.proofs.laws.own_moves.Goals as goal

pub returns : goal.returns
returns c = record { law = own_moves }
