use Rattle.osb_accounts.proofs.FirstFaults.{come_in_order}
use Rattle.osb_accounts.proofs.laws.faults_come_in_order.Goals as goal

pub returns : goal.returns
returns c = record { law = come_in_order }
