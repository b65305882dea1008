use Rattle.osb_log.proofs.Logs.{logs_told}
use Rattle.osb_log.proofs.laws.texts_tell_logs.Goals as goal

pub returns-clause-opened : goal.returns-clause-opened
returns-clause-opened c = λ same. (logs_told _ _ _ _ c.log_fits.ensures c.log_fits-2.ensures same).0

pub returns-clause-log : goal.returns-clause-log
returns-clause-log c = λ same. (logs_told _ _ _ _ c.log_fits.ensures c.log_fits-2.ensures same).1
