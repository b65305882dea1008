use Rattle.std.proofs.Common.{subst, sym}
use Rattle.std.specs.List.{All}
use Rattle.std.proofs.lemmas.List.Elements.{All-push}
use Rattle.osb_plan.specs.Bridge.{IsReady}
use Rattle.osb_cases.proofs.plans.builds.Goals as goal

pub loop-entry-preserved-in_ok-push : goal.loop-entry-preserved-in_ok-push
loop-entry-preserved-in_ok-push c = subst (All IsReady) (sym c.in_ok-push.ensures.items) (All-push IsReady _ _ c.loop-entry.invariant c.in_ok-build.ensures.ready)
