use Rattle.osb_accounts.proofs.Written.{is_inverse}
use Rattle.osb_accounts.proofs.laws.reading_is_inverse.Goals as goal

pub returns : goal.returns
returns c = record { law = is_inverse }
