use Rattle.std.proofs.Common.{◌+◌, drop}
use Rattle.osb_job.specs.Scripts.{chain_at}
use Rattle.osb_job.specs.Jobs.{run_on, run_from}
use Rattle.osb_job.proofs.StageRuns.{IsSoFar}
use Rattle.osb_job.proofs.stages.run_from.Given as goal

abbrev pub invariant-loop-passed : goal.invariant-loop-passed
invariant-loop-passed g l =
    IsSoFar (run_from l.plan l.fn.setup l.fn.from l.fn.base) (run_on l.plan l.setup (l.from + l.passed) l.tree (drop l.passed (drop l.from (chain_at l.plan l.fn.setup.task)))) l.initial.steps l.steps
