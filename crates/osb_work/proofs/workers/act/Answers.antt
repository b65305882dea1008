use Rattle.std.proofs.Common.{sym, subst}
use Rattle.osb_job.specs.Jobs.{JobState}
use Rattle.osb_work.specs.Works.{Works}
use Rattle.osb_work.proofs.Turning.{asks_allowed, played_fits, played_works, asked_refused}
use Rattle.osb_work.proofs.workers.act.Goals as goal
use Rattle.osb_work.proofs.workers.act.Goals.{in-Ok, in-Err}

pub act-requires-clause-allowed : goal.act-requires-clause-allowed
act-requires-clause-allowed g c =
    let asks = c.requires.asked in
    asks_allowed c.args.plan.now c.args.turnstile.now c.args.seat.now asks.before c.args.action c.requires.sound c.recipes-recipes.ensures.table asks.works asks.wanted

pub take-requires-clause-fits : goal.take-requires-clause-fits
take-requires-clause-fits g c =
    played_fits c.args.plan.now c.args.turnstile.now c.args.seat.now c.act.new.seat c.requires.asked.before c.act.ensures.worker c.requires.asked.works
    c.requires.sound c.recipes-recipes.ensures.table c.requires.begins c.act.ensures.own c.args.action c.in-Ok.reply c.in-Ok.ensures.acts c.requires.asked.wanted c.args.job.now.place c.requires.asked.is

pub returns-then-is_end-clause-works : goal.returns-then-is_end-clause-works
returns-then-is_end-clause-works g c =
    elim c.match-act.branch [
      | in-Ok w ↦
          subst (λ (job : JobState). Works c.args.plan.now c.args.turnstile.now c.act.new.seat job.place) (sym w.job-is)
          (played_works c.args.plan.now c.args.turnstile.now c.args.seat.now c.act.new.seat c.requires.asked.before c.act.ensures.worker c.requires.asked.works
          c.requires.sound c.recipes-recipes.ensures.table c.requires.begins c.act.ensures.own c.args.action w.in-Ok.reply w.in-Ok.ensures.acts c.requires.asked.wanted c.args.job.now.place c.requires.asked.is _ _ w.take.new.self.place w.take.ensures.taken w.take.ensures.place)
      | in-Err w ↦
          subst (λ (job : JobState). Works c.args.plan.now c.args.turnstile.now c.act.new.seat job.place) (sym w.job-is)
          (asked_refused c.args.plan.now c.args.turnstile.now c.args.seat.now c.act.new.seat c.args.action c.args.job.now.place w.refuse.new.self.place c.act.ensures.worker c.requires.asked
          w.in-Err.ensures.acts w.in-Err.ensures.sure w.refuse.ensures.place)
    ]

pub returns-else-is_end-clause-works : goal.returns-else-is_end-clause-works
returns-else-is_end-clause-works g c =
    elim c.match-act.branch [
      | in-Ok w ↦
          subst (λ (job : JobState). Works c.args.plan.now c.args.turnstile.now c.act.new.seat job.place) (sym w.job-is)
          (played_works c.args.plan.now c.args.turnstile.now c.args.seat.now c.act.new.seat c.requires.asked.before c.act.ensures.worker c.requires.asked.works
          c.requires.sound c.recipes-recipes.ensures.table c.requires.begins c.act.ensures.own c.args.action w.in-Ok.reply w.in-Ok.ensures.acts c.requires.asked.wanted c.args.job.now.place c.requires.asked.is _ _ w.take.new.self.place w.take.ensures.taken w.take.ensures.place)
      | in-Err w ↦
          subst (λ (job : JobState). Works c.args.plan.now c.args.turnstile.now c.act.new.seat job.place) (sym w.job-is)
          (asked_refused c.args.plan.now c.args.turnstile.now c.args.seat.now c.act.new.seat c.args.action c.args.job.now.place w.refuse.new.self.place c.act.ensures.worker c.requires.asked
          w.in-Err.ensures.acts w.in-Err.ensures.sure w.refuse.ensures.place)
    ]
