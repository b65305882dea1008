use Rattle.osb_accounts.proofs.Written.{agree}
use Rattle.osb_accounts.proofs.laws.texts_agree.Goals as goal

pub returns : goal.returns
returns c = record { law = agree }
