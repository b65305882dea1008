use Rattle.std.proofs.Common.{refl, ap, ◌∙◌}
use Rattle.osb_tree.specs.declared.numbers.WorkerNo.{WorkerNo}
use Rattle.osb_job.specs.declared.actions.Flag.TheVariants.{Fine}
use Rattle.osb_machine.proofs.SerialTurns.{limit_turned, gone_none, job_of, jobs_once, gone_once}
use Rattle.osb_machine.proofs.serials.go.Goals as goal

pub loop-init : goal.loop-init
loop-init g c = record {
  first = c.requires.first;
  jobs = c.requires.jobs;
  limit = refl;
  gone = gone_none c.args.plan.now c.args.shared.now c.args.job.now.place c.args.steps.now c.requires.outside;
}

pub turn-requires-clause-job : goal.turn-requires-clause-job
turn-requires-clause-job g c = job_of c.args.plan.now c.loop.shared c.loop.job c.loop.invariant.first c.loop.invariant.jobs

pub returns-then-not-turn-clause-jobs : goal.returns-then-not-turn-clause-jobs
returns-then-not-turn-clause-jobs g c =
    jobs_once c.args.plan.now c.args.shared.now c.loop.shared c.turn.new.shared c.loop.job.worker c.loop.job.place c.turn.new.job.place c.loop.invariant.first c.turn.ensures.turned c.requires.sound c.recipes-recipes.ensures.table c.loop.invariant.jobs

pub returns-then-not-turn-clause-limit : goal.returns-then-not-turn-clause-limit
returns-then-not-turn-clause-limit g c = limit_turned c.args.plan.now c.loop.job.worker Fine c.args.shared.now c.loop.shared c.turn.new.shared c.loop.job.place c.turn.new.job.place c.turn.ensures.turned c.loop.invariant.limit

pub returns-then-not-turn-clause-goes : goal.returns-then-not-turn-clause-goes
returns-then-not-turn-clause-goes g c =
    gone_once c.args.plan.now c.args.shared.now c.loop.shared c.turn.new.shared c.loop.job.worker c.loop.job.place c.turn.new.job.place c.loop.invariant.first c.turn.ensures.turned c.args.steps.now c.loop.steps c.turn.new.steps c.turn.ensures.stages c.loop.invariant.gone

pub loop-preserved : goal.loop-preserved
loop-preserved g c =
    let turned = c.turn.ensures.turned in
    record {
      first = ap (λ (w : WorkerNo). w.0) c.turn.ensures.worker ∙ c.loop.invariant.first;
      jobs = jobs_once c.args.plan.now c.args.shared.now c.loop.shared c.turn.new.shared c.loop.job.worker c.loop.job.place c.turn.new.job.place c.loop.invariant.first turned c.requires.sound c.recipes-recipes.ensures.table c.loop.invariant.jobs;
      limit = limit_turned c.args.plan.now c.loop.job.worker Fine c.args.shared.now c.loop.shared c.turn.new.shared c.loop.job.place c.turn.new.job.place turned c.loop.invariant.limit;
      gone = gone_once c.args.plan.now c.args.shared.now c.loop.shared c.turn.new.shared c.loop.job.worker c.loop.job.place c.turn.new.job.place c.loop.invariant.first turned c.args.steps.now c.loop.steps c.turn.new.steps c.turn.ensures.stages c.loop.invariant.gone;
    }
