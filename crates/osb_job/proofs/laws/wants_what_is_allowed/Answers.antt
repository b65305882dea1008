use Rattle.osb_job.proofs.Wanting.{wants_what_is_allowed}
use Rattle.osb_job.proofs.laws.wants_what_is_allowed.Goals as goal

pub returns : goal.returns
returns c = record { law = wants_what_is_allowed }
