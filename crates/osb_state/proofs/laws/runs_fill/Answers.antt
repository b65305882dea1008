use Rattle.osb_state.proofs.FilledRuns.{runs_fill}
use Rattle.osb_state.proofs.laws.runs_fill.Goals as goal

pub returns : goal.returns
returns c = record { law = runs_fill }
