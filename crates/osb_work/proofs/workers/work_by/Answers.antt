use Rattle.osb_work.proofs.Turning.{begins_works}
use Rattle.osb_work.proofs.workers.work_by.Goals as goal

pub loop-init : goal.loop-init
loop-init g c = record {
  own = c.requires.own;
  number = c.requires.number;
  works = begins_works c.args.plan.now c.args.turnstile.now c.args.seat.now c.new-job.result.place c.requires.begins c.requires.fresh.0 c.requires.fresh.1 c.new-job.ensures.outside;
}
