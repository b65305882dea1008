use Rattle.std.proofs.Common.{◌≡◌, ◌+◌, ◌%◌, ◌^◌, true}
use Rattle.osb_turn.specs.Seats.{IsSeatOf}
use Rattle.osb_turn.proofs.tests.counters.add_often.Given as goal

abbrev pub invariant-loop : goal.invariant-loop
invariant-loop g l = IsSeatOf (λ s worker action. (s.count + 1) % 2 ^ 64) (λ s worker action. record { count = (s.count + 1) % 2 ^ 64 }) (λ s worker action. true) (λ s worker action. Unit {0}) l.turnstile l.seat
    × (l.seat.worker ≡ l.initial.seat.worker)
