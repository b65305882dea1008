use Rattle.osb_tasks.proofs.ChainStages.{inputs_stop}
use Rattle.osb_tasks.proofs.stages.input_trees.Goals as goal

pub returns-in-Err : goal.returns-in-Err
returns-in-Err c n =
    inputs_stop c.args.found.now c.args.blobs.now c.args.inputs.now c.loop-name.name-index c.loop-name-item.result c.loop-name.trees.items c.in-Err.fault _
    c.loop-name-test.true c.loop-name-item.is c.loop-name.invariant.ready (c.in-Err.ensures (λ e. n (cc))) c.loop-name.invariant.made
