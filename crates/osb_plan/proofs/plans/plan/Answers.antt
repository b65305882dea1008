use Rattle.std.proofs.Common.{◌≡◌, sym, subst}
use Rattle.std.proofs.lemmas.Result.{IfOk-weaker}
use Rattle.osb_recipe.specs.Plans.{IsSound}
use Rattle.osb_recipe.specs.declared.plans.Plan.{Plan}
use Rattle.osb_plan.specs.Planning.{planned}
use Rattle.osb_plan.specs.Bridge.{BridgesTo}
use Rattle.osb_plan.proofs.Steps.{reads_builds}
use Rattle.osb_plan.proofs.Soundness.{plan_is_sound}
use Rattle.osb_plan.proofs.TasksMeant.{plan_bridges}
use Rattle.osb_plan.proofs.plans.plan.Goals as goal

pub make_plan-requires : goal.make_plan-requires
make_plan-requires c = record { read = reads_builds c.args.builds.now c.requires.ready }

pub returns-clause-sound : goal.returns-clause-sound
returns-clause-sound c =
    IfOk-weaker c.make_plan.result (λ plan. plan ≡ planned c.args.table c.args.builds.now) IsSound
    (λ plan is. subst IsSound (sym is) (plan_is_sound c.args.table c.args.builds.now c.recipes-recipes.ensures.table c.requires.ready)) c.make_plan.ensures

pub returns-clause-bridge : goal.returns-clause-bridge
returns-clause-bridge c =
    let Bridges : Plan → Type 0 = λ plan. BridgesTo c.args.builds.now plan in
    IfOk-weaker c.make_plan.result (λ plan. plan ≡ planned c.args.table c.args.builds.now) Bridges
    (λ plan is. subst Bridges (sym is) (plan_bridges c.args.table c.args.builds.now c.recipes-recipes.ensures.table c.requires.ready)) c.make_plan.ensures
