use Rattle.osb_state.proofs.FittingReplies.{replies_fit}
use Rattle.osb_state.proofs.laws.replies_fit.Goals as goal

pub returns : goal.returns
returns c = record { law = replies_fit }
