use Rattle.std.proofs.Common.{arith}
use Rattle.osb_top.proofs.Writing.{rest_of, taken_on, within_on}
use Rattle.osb_top.proofs.writes.write_all.Goals as goal

pub loop-count-preserved : goal.loop-count-preserved
loop-count-preserved g c = record {
  within = within_on c.args.text.now _ c.loop-count.count c.in-Ok.more (rest_of c.args.text.now c.loop-count.count) c.loop-count.invariant.within c.in-Ok.ensures.within;
  taken = taken_on _ _ _ c.args.text.now _ c.loop-count.count c.in-Ok.more (rest_of c.args.text.now c.loop-count.count) c.loop-count.invariant.taken c.in-Ok.ensures.taken;
  later = omega (arith, c.in-Ok.ensures.cause.later);
}
