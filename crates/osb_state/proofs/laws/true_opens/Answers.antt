use Rattle.osb_state.proofs.TrueOpenings.{true_opens}
use Rattle.osb_state.proofs.laws.true_opens.Goals as goal

pub returns : goal.returns
returns c = record { law = true_opens }
