use Rattle.osb_tree.proofs.Puts.{IsWithinLimits-put_at}
use Rattle.osb_tree.proofs.laws.put_stays_within_limits.Goals as goal

pub returns : goal.returns
returns c = record { law = IsWithinLimits-put_at }
