use Rattle.std.proofs.Common.{◌∙◌}
use Rattle.osb_plan.proofs.Steps.{left_at, chains_turn}
use Rattle.osb_plan.proofs.tasks.task_chains.Goals as goal

pub loop-chains-preserved : goal.loop-chains-preserved
loop-chains-preserved c =
    chains_turn _ _ _ _ _ _ (left_at c.args.builds.now c.loop-chains.chains-index c.chains-item.result c.loop-chains-test.true c.chains-item.is) c.as_slice.ensures.items c.in_ok-add_chains.ensures
    ∙ c.loop-chains.invariant
