use Rattle.osb_state.proofs.OtherParts.{part_stays}
use Rattle.osb_state.proofs.laws.part_stays.Goals as goal

pub returns : goal.returns
returns c = record { law = part_stays }
