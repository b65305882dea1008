use Rattle.osb_state.proofs.RunsKept.{runs_are_kept}
use Rattle.osb_state.proofs.laws.runs_are_kept.Goals as goal

pub returns : goal.returns
returns c = record { law = runs_are_kept }
