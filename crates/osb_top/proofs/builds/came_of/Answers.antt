use Rattle.osb_top.specs.Builds.{IsCameAt}
use Rattle.osb_top.proofs.Preparing.{zipped_first, zipped_more}
use Rattle.osb_top.proofs.builds.came_of.Goals as goal

pub loop-place-init : goal.loop-place-init
loop-place-init c = zipped_first (IsCameAt c.args.settings.now.exports c.args.planned.now c.args.plan.now c.args.outcomes.now) _ c.new-all.ensures.items

pub loop-place-preserved : goal.loop-place-preserved
loop-place-preserved c =
    zipped_more (IsCameAt c.args.settings.now.exports c.args.planned.now c.args.plan.now c.args.outcomes.now) c.loop-place.yielded c.loop-place.all.items _ c.in-Some.place _
    c.in_ok-push.ensures.items c.loop-place.invariant c.came_at.ensures.came
