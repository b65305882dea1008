use Rattle.std.proofs.Common.{List, drop}
use Rattle.osb_job.specs.declared.places.Place.{Place}
use Rattle.osb_state.specs.States.{State}
use Rattle.osb_state.specs.Turns.{HasJobs}
use Rattle.osb_state.specs.Schedules.{Runs, HaveNumbers, places_of}
use Rattle.osb_machine.proofs.machines.run_turns.Given as goal

abbrev pub invariant-loop-next : goal.invariant-loop-next
invariant-loop-next g l = record {
  numbers : HaveNumbers l.jobs;
  jobs : HasJobs l.plan l.shared (places_of l.jobs);
  runs : (end : State) (last : List Place) → Runs l.plan end last l.shared (places_of l.jobs) (drop l.next-index l.schedule) → Runs l.plan end last l.fn.shared (places_of l.fn.jobs) l.schedule;
}
