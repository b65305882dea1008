use Rattle.std.proofs.Common.{◌≡◌}
use Rattle.osb_state.specs.States.{Allows, gives, after}
use Rattle.osb_turn.specs.Seats.{IsSeatOf}
use Rattle.osb_work.specs.Works.{is_ready_for, Works}
use Rattle.osb_work.proofs.workers.work_by.Given as goal

abbrev pub invariant-loop : goal.invariant-loop
invariant-loop g l = record {
  own : IsSeatOf gives after is_ready_for Allows l.turnstile l.seat;
  number : l.seat.worker ≡ l.fn.worker;
  works : Works l.plan l.turnstile l.seat l.job.place;
}
