use Rattle.std.proofs.Common.{sym, ◌∙◌}
use Rattle.osb_job.specs.Jobs.{gathered}
use Rattle.osb_job.proofs.StageRuns.{cut_at_once, gathered_refused}
use Rattle.osb_job.proofs.takes.gathered.Goals as goal

pub returns-in-Err-clause-taken : goal.returns-in-Err-clause-taken
returns-in-Err-clause-taken g c =
    cut_at_once (gathered c.args.plan.now c.args.task c.args.got.now) c.args.steps.now c.no_memory-in-Err.result
    (c.no_memory-in-Err.ensures ∙ sym (gathered_refused c.args.plan.now c.args.task c.args.got.now))
