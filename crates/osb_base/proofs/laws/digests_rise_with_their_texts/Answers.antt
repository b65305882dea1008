use Rattle.osb_base.proofs.DigestOrder.{digests_rise}
use Rattle.osb_base.proofs.laws.digests_rise_with_their_texts.Goals as goal

pub returns : goal.returns
returns c = record { law = digests_rise }
