use Rattle.osb_job.proofs.AgreeingTurns.{wants_what_is_next}
use Rattle.osb_job.proofs.laws.wants_what_is_next.Goals as goal

pub returns : goal.returns
returns c = record { law = wants_what_is_next }
