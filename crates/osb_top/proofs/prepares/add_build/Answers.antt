use Rattle.std.proofs.Common.{sym, subst}
use Rattle.std.specs.List.{All}
use Rattle.std.proofs.lemmas.List.Elements.{All-push}
use Rattle.osb_plan.specs.Bridge.{IsReady}
use Rattle.osb_top.proofs.prepares.add_build.Goals as goal

pub returns-in_ok-push-in-Ok-2-clause-ready : goal.returns-in_ok-push-in-Ok-2-clause-ready
returns-in_ok-push-in-Ok-2-clause-ready c = λ all.
    subst (λ list. All IsReady list) (sym c.in_ok-push-in-Ok-2.ensures.items) (All-push IsReady c.args.planned.now.items c.into_build.result all c.into_build.ensures.ready)
