use Rattle.osb_board.proofs.Changes.{claim_changes_one}
use Rattle.osb_board.proofs.laws.claim_changes_one.Goals as goal

pub returns : goal.returns
returns g c = record { law = claim_changes_one _ }
