use Rattle.osb_state.proofs.TrueMoves.{true_stays}
use Rattle.osb_state.proofs.laws.true_stays.Goals as goal

pub returns : goal.returns
returns c = record { law = true_stays }
