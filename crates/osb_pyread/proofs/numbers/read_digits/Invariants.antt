use Rattle.std.proofs.Common.{◌≡◌, length}
use Rattle.osb_pyread.specs.Numerals.{digits_at}
use Rattle.osb_pyread.proofs.numbers.read_digits.Given as goal

abbrev pub invariant-loop-rest : goal.invariant-loop-rest
invariant-loop-rest l = digits_at l.number l.rest ≡ digits_at 0 l.bytes

abbrev pub decreases-loop-rest : goal.decreases-loop-rest
decreases-loop-rest l = length l.rest
