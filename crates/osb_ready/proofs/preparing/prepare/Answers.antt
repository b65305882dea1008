use Rattle.osb_sources.proofs.Thinned.{thinned_same}
use Rattle.osb_ready.proofs.Readied.{stopped_ready}
use Rattle.osb_ready.proofs.preparing.prepare.Goals as goal

pub returns-in-Err-clause-prepared : goal.returns-in-Err-clause-prepared
returns-in-Err-clause-prepared g c = stopped_ready c.args.settings.now c.args.given c.in-Err.stop _ c.stopped.result c.in-Err.is (c.stopped.ensures.due c.args.settings.now)

pub returns-in-Err-clause-left : goal.returns-in-Err-clause-left
returns-in-Err-clause-left g c = thinned_same _
