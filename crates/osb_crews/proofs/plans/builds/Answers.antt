use Rattle.std.proofs.Common.{subst, sym}
use Rattle.std.specs.List.{All}
use Rattle.std.proofs.lemmas.List.Elements.{All-push}
use Rattle.osb_plan.specs.Bridge.{IsReady}
use Rattle.osb_crews.proofs.plans.builds.Goals as goal

pub loop-bytes-preserved : goal.loop-bytes-preserved
loop-bytes-preserved c = subst (All IsReady) (sym c.in_ok-push-in-Ok.ensures.items) (All-push IsReady _ _ c.loop-bytes.invariant c.into_build.ensures.ready)
