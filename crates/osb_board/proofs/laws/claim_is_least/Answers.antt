use Rattle.osb_board.proofs.Changes.{claim_is_least}
use Rattle.osb_board.proofs.laws.claim_is_least.Goals as goal

pub returns : goal.returns
returns g c = record { law = claim_is_least _ }
