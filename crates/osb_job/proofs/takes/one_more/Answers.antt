use Rattle.std.proofs.Common.{[], ◌∷◌, ◌++◌, sym, ◌∙◌}
use Rattle.osb_job.specs.Jobs.{fetched}
use Rattle.osb_job.proofs.StageRuns.{cut_at_once, fetched_refused}
use Rattle.osb_job.proofs.takes.one_more.Goals as goal

pub returns-in-Err-clause-taken : goal.returns-in-Err-clause-taken
returns-in-Err-clause-taken g c =
    rw c.in-Fetched.is
    (cut_at_once (fetched c.args.plan.now c.args.task (c.args.got ++ c.in-Fetched.outcome ∷ [])) c.args.steps.now c.no_memory.result
    (c.no_memory.ensures ∙ sym (fetched_refused c.args.plan.now c.args.task (c.args.got ++ c.in-Fetched.outcome ∷ []))))
