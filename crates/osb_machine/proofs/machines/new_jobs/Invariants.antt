use Rattle.std.proofs.Common.{◌≡◌, length}
use Rattle.std.specs.Prelude.{replicate}
use Rattle.osb_job.specs.declared.places.Place.TheVariants.{Outside}
use Rattle.osb_state.specs.Schedules.{HaveNumbers, places_of}
use Rattle.osb_machine.proofs.machines.new_jobs.Given as goal

abbrev pub invariant-loop-number : goal.invariant-loop-number
invariant-loop-number l = record {
  numbers : HaveNumbers l.jobs.items;
  places : places_of l.jobs.items ≡ replicate l.number Outside;
  count : length l.jobs.items ≡ l.number;
}
