use Rattle.osb_evict.proofs.Rising.{front_is_one}
use Rattle.osb_evict.proofs.laws.front_is_one.Goals as goal

pub returns : goal.returns
returns c = record { law = front_is_one }
