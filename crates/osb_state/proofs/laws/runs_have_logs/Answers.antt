use Rattle.osb_state.proofs.LoggedRuns.{runs_have_logs}
use Rattle.osb_state.proofs.laws.runs_have_logs.Goals as goal

pub returns : goal.returns
returns c = record { law = runs_have_logs }
