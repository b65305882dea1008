use Rattle.osb_state.proofs.TrueReplies.{replies_are_true}
use Rattle.osb_state.proofs.laws.replies_are_true.Goals as goal

pub returns : goal.returns
returns c = record { law = replies_are_true }
