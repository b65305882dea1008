use Rattle.osb_board.proofs.Changes.{idle_board_is_idle_claim}
use Rattle.osb_board.proofs.laws.idle_board_is_idle_claim.Goals as goal

pub returns : goal.returns
returns g c = record { law = idle_board_is_idle_claim _ }
