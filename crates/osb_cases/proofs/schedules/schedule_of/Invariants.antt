use Rattle.std.proofs.Common.{◌<◌, All}
use Rattle.osb_tree.specs.declared.numbers.WorkerNo.{WorkerNo}
use Rattle.osb_job.specs.declared.actions.Flag.{Flag}
use Rattle.osb_cases.proofs.schedules.schedule_of.Given as goal

abbrev pub invariant-loop-place : goal.invariant-loop-place
invariant-loop-place l = All (λ (turn : WorkerNo × Flag). turn.0.0 < l.workers) l.schedule.items
