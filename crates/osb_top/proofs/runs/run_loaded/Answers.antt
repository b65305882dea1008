use Rattle.osb_sources.proofs.Thinned.{thinned_same}
use Rattle.osb_top.proofs.runs.run_loaded.Goals as goal

pub returns-in-Err-clause-left : goal.returns-in-Err-clause-left
returns-in-Err-clause-left g c = thinned_same _
