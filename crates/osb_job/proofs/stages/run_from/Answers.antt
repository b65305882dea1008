use Rattle.std.proofs.Common.{◌≡◌, ◌+◌, drop, sym, ap, ◌∙◌}
use Rattle.osb_job.specs.Scripts.{chain_at}
use Rattle.osb_job.specs.Jobs.{run_from}
use Rattle.osb_job.proofs.StageRuns.{one_more, cut_off}
use Rattle.osb_job.proofs.stages.run_from.Goals as goal

pub returns-in-Err-clause-taken : goal.returns-in-Err-clause-taken
returns-in-Err-clause-taken g c =
    let keys = drop c.args.from (chain_at c.args.plan.now c.args.setup.task) in
    let same : c.rest_of-key-items.result.now ≡ keys = c.rest_of-key-items.ensures ∙ ap (drop c.args.from) c.chain_at.ensures in
    cut_off c.args.plan.now c.args.setup (c.args.from + c.loop-passed.passed) c.loop-passed.tree keys c.loop-passed.passed
    (run_from c.args.plan.now c.args.setup c.args.from c.args.base) c.args.steps.now c.loop-passed.steps c.stage_at.new.steps c.no_memory.result
    (rw same at c.loop-passed-test.true) c.loop-passed.invariant c.stage_at.ensures.more (rw (c.as_slice.ensures.items, same) at c.stage_at.ensures.most) c.no_memory.ensures

pub loop-passed-preserved : goal.loop-passed-preserved
loop-passed-preserved g c =
    let keys = drop c.args.from (chain_at c.args.plan.now c.args.setup.task) in
    let same : c.rest_of-key-items.result.now ≡ keys = c.rest_of-key-items.ensures ∙ ap (drop c.args.from) c.chain_at.ensures in
    one_more c.args.plan.now c.args.setup c.args.from c.loop-passed.tree c.in-Ok-Tree.tree keys c.loop-passed.passed
    (run_from c.args.plan.now c.args.setup c.args.from c.args.base) c.args.steps.now c.loop-passed.steps c.stage_at.new.steps
    (rw same at c.loop-passed-test.true) c.loop-passed.invariant (rw (c.in-Ok-Tree.field-0-is, c.as_slice.ensures.items, same) at c.in-Ok-Tree.ensures.made)
    (rw (c.as_slice.ensures.items, same) at c.in-Ok-Tree.ensures.steps) (rw (c.marked_at-marked.ensures, same) at (sym c.has_key.ensures ∙ c.if-has_key.false))
