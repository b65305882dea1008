use Rattle.osb_state.proofs.TrueRuns.{runs_keep}
use Rattle.osb_state.proofs.laws.runs_keep.Goals as goal

pub returns : goal.returns
returns c = record { law = runs_keep }
