use Rattle.osb_store.proofs.ReadLaws.{one_text}
use Rattle.osb_store.proofs.laws.stores_have_one_text.Goals as goal

pub returns : goal.returns
returns c = record { law = one_text }
