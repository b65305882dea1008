use Rattle.osb_tree.proofs.ListingFronts.{IsTree-front}
use Rattle.osb_tree.proofs.laws.front_is_a_tree.Goals as goal

pub returns : goal.returns
returns c = record { law = IsTree-front }
