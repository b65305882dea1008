use Rattle.osb_accounts.proofs.WholeKept.{users_keep}
use Rattle.osb_accounts.proofs.laws.users_keep_lines.Goals as goal

pub returns : goal.returns
returns c = record { law = users_keep }
