use Rattle.osb_state.proofs.BlocksSpent.{blocks_are_spent}
use Rattle.osb_state.proofs.laws.blocks_are_spent.Goals as goal

pub returns : goal.returns
returns c = record { law = blocks_are_spent }
