use Rattle.osb_accounts.proofs.WholeKept.{groups_keep}
use Rattle.osb_accounts.proofs.laws.groups_keep_lines.Goals as goal

pub returns : goal.returns
returns c = record { law = groups_keep }
