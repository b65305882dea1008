use Rattle.osb_tree.proofs.NextPaths.{next_after-is_least_above}
use Rattle.osb_tree.proofs.laws.next_is_least_above.Goals as goal

pub returns : goal.returns
returns c = record { law = next_after-is_least_above }
