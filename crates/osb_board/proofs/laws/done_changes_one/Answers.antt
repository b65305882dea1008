use Rattle.osb_board.proofs.Changes.{done_changes_one}
use Rattle.osb_board.proofs.laws.done_changes_one.Goals as goal

pub returns : goal.returns
returns g c = record { law = done_changes_one _ }
