use Rattle.std.proofs.Common.{◌≡◌, ◌-◌}
use Rattle.osb_store.specs.Reading.{times_at, input_at}
use Rattle.osb_store.proofs.Times.{with_front}
use Rattle.osb_store.proofs.inputs.read_inputs.Given as goal

abbrev pub invariant-loop : goal.invariant-loop
invariant-loop l = with_front l.inputs.items (times_at input_at (l.count - l.counter) l.rest) ≡ times_at input_at l.count l.bytes
