use Rattle.std.proofs.Common.{◌≡◌, ◌-◌}
use Rattle.osb_store.specs.Reading.{times_at, number_at}
use Rattle.osb_store.proofs.Times.{with_front}
use Rattle.osb_store.proofs.inputs.read_numbers.Given as goal

abbrev pub invariant-loop : goal.invariant-loop
invariant-loop l = with_front l.numbers.items (times_at number_at (l.count - l.counter) l.rest) ≡ times_at number_at l.count l.bytes
