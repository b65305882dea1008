use Rattle.osb_sources.proofs.Thinned.{thinned_same, thinned_on}
use Rattle.osb_top.proofs.Preparing.{prepared_first, prepared_more}
use Rattle.osb_top.proofs.prepares.prepare_all.Goals as goal

pub loop-given-init : goal.loop-given-init
loop-given-init g c = record { prepared = prepared_first c.args.settings.now _ _ c.new-builds.ensures.items; left = thinned_same _ }

pub loop-given-preserved : goal.loop-given-preserved
loop-given-preserved g c = record {
  prepared = prepared_more c.args.settings.now _ _ _ c.loop-given.yielded c.loop-given.builds.items _ c.in-Some.given _ c.in_ok-push.ensures.items c.loop-given.invariant.prepared c.prepare.ensures.prepared;
  left = thinned_on c.loop-given.invariant.left c.prepare.ensures.left;
}

pub returns-in_err-push-clause-left : goal.returns-in_err-push-clause-left
returns-in_err-push-clause-left g c = thinned_on c.loop-given.invariant.left c.prepare.ensures.left
