use Rattle.osb_job.proofs.NextAllowed.{next_is_allowed}
use Rattle.osb_job.proofs.laws.next_is_allowed.Goals as goal

pub returns : goal.returns
returns c = record { law = next_is_allowed }
