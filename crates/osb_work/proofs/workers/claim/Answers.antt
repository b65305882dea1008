use Rattle.std.proofs.Common.{refl}
use Rattle.osb_job.specs.declared.actions.Action.TheVariants.{Claim}
use Rattle.osb_job.specs.declared.places.Place.TheVariants.{Outside}
use Rattle.osb_work.proofs.Turning.{acts_of, asks_allowed, played_fits, played_works}
use Rattle.osb_work.proofs.workers.claim.Goals as goal

pub ask-requires-clause-allowed : goal.ask-requires-clause-allowed
ask-requires-clause-allowed g c = asks_allowed c.args.plan.now c.args.turnstile.now c.args.seat.now Outside Claim c.requires.sound c.recipes-recipes.ensures.table c.requires.works refl

pub take-requires-clause-fits : goal.take-requires-clause-fits
take-requires-clause-fits g c =
    played_fits c.args.plan.now c.args.turnstile.now c.args.seat.now c.ask.new.seat Outside c.ask.ensures.worker c.requires.works
    c.requires.sound c.recipes-recipes.ensures.table c.requires.begins c.ask.ensures.own Claim c.in-Ok-Some.reply
    (acts_of c.args.turnstile.now c.args.seat.now c.ask.new.seat Claim c.in-Ok-Some.field-0 c.in-Ok-Some.reply c.in-Ok-Some.field-0-is c.in-Ok-Some.ensures.acts) refl c.args.job.now.place c.requires.outside

pub returns-in-Ok-Some-clause-works : goal.returns-in-Ok-Some-clause-works
returns-in-Ok-Some-clause-works g c = λ goes.
    played_works c.args.plan.now c.args.turnstile.now c.args.seat.now c.ask.new.seat Outside c.ask.ensures.worker c.requires.works
    c.requires.sound c.recipes-recipes.ensures.table c.requires.begins c.ask.ensures.own Claim c.in-Ok-Some.reply
    (acts_of c.args.turnstile.now c.args.seat.now c.ask.new.seat Claim c.in-Ok-Some.field-0 c.in-Ok-Some.reply c.in-Ok-Some.field-0-is c.in-Ok-Some.ensures.acts) refl c.args.job.now.place c.requires.outside
    _ _ c.take.new.self.place c.take.ensures.taken c.take.ensures.place
