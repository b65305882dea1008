use Rattle.osb_board.proofs.Changes.{runs_none}
use Rattle.osb_board.proofs.laws.runs_none.Goals as goal

pub returns : goal.returns
returns g c = record { law = runs_none _ }
