use Rattle.osb_state.proofs.RunsMade.{numbers_push, places_push, length_push}
use Rattle.osb_machine.proofs.machines.new_jobs.Goals as goal

pub loop-number-preserved : goal.loop-number-preserved
loop-number-preserved c = record {
  numbers = numbers_push c.loop-number.jobs.items c.push.new.self.items c.new.result c.loop-number.number c.in_ok-push.ensures.items c.loop-number.invariant.numbers c.loop-number.invariant.count c.new.ensures.worker;
  places = places_push c.loop-number.jobs.items c.push.new.self.items c.new.result c.loop-number.number c.in_ok-push.ensures.items c.loop-number.invariant.places c.new.ensures.outside;
  count = length_push c.loop-number.jobs.items c.push.new.self.items c.new.result c.loop-number.number c.in_ok-push.ensures.items c.loop-number.invariant.count;
}
