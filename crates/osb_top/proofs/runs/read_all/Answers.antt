use Rattle.std.proofs.Common.{refl, arith, ◌∙◌}
use Rattle.osb_top.specs.Readings.{IsCutGiven}
use Rattle.osb_top.proofs.Preparing.{zipped_first}
use Rattle.osb_top.proofs.Reading.{none_rose, more_rose, given_cut, given_more, given_all}
use Rattle.osb_top.proofs.runs.read_all.Goals as goal

pub loop-name-init : goal.loop-name-init
loop-name-init g c = record {
  given = zipped_first (IsCutGiven (g.H.Shelf.files c.args.shelf.now)) _ c.new-reads.ensures.items;
  faults = none_rose _ _ _ c.new-reads.ensures.items (omega arith);
  files = refl;
}

pub loop-name-preserved : goal.loop-name-preserved
loop-name-preserved g c = record {
  given = given_more _ c.args.names.now c.loop-name.name-index c.name-item.result _ c.loop-name.reads.items _ _ c.loop-name-test.true c.name-item.is c.as_str.ensures.content c.in_ok-push.ensures.items c.loop-name.invariant.given
      (given_cut _ _ _ _ c.loop-name.invariant.files c.read.ensures.found c.read.ensures.short);
  faults = more_rose _ _ _ c.loop-name.reads.items _ _ c.in_ok-push.ensures.items c.loop-name.invariant.faults c.read.ensures.cause;
  files = c.read.ensures.kept ∙ c.loop-name.invariant.files;
}

pub returns-clause-given : goal.returns-clause-given
returns-clause-given g c = given_all _ c.args.names.now c.loop-name.name-index _ (omega (arith, c.loop-name-test.false)) c.loop-name.invariant.given
