use Rattle.osb_state.proofs.JobsKept.{jobs_stay}
use Rattle.osb_state.proofs.laws.jobs_stay.Goals as goal

pub returns : goal.returns
returns c = record { law = jobs_stay }
