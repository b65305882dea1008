use Rattle.std.proofs.Common.{arith}
use Rattle.osb_files.proofs.Octal.{digits_value-front}
use Rattle.osb_files.proofs.chmod.octal_value.Goals as goal

pub overflow_mul-value : goal.overflow_mul-value
overflow_mul-value c =
    omega (arith, digits_value-front c.args.digits.now c.loop-digit.digit-index c.requires.digits c.requires.few, c.loop-digit.invariant)

pub overflow_add-value : goal.overflow_add-value
overflow_add-value c =
    omega (arith, digits_value-front c.args.digits.now c.loop-digit.digit-index c.requires.digits c.requires.few, c.loop-digit.invariant, c.from.ensures, c.type_inv.digits c.loop-digit.digit-index)

pub returns-clause-small : goal.returns-clause-small
returns-clause-small c =
    omega (arith, digits_value-front c.args.digits.now c.loop-digit.digit-index c.requires.digits c.requires.few, c.loop-digit.invariant)
