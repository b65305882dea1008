use Rattle.std.proofs.Common.{arith}
use Rattle.osb_tree.proofs.AccountLaws.{digits_value-small, digits_value-more, digit-at}
use Rattle.osb_tree.proofs.accounts.value_of.Goals as goal

pub overflow_mul-value : goal.overflow_mul-value
overflow_mul-value c =
    omega (arith, digits_value-small c.args.digits.now c.loop-digit.digit-index c.requires.digits c.requires.few, c.loop-digit.invariant)

pub overflow_add-value : goal.overflow_add-value
overflow_add-value c =
    omega (arith, digits_value-small c.args.digits.now c.loop-digit.digit-index c.requires.digits c.requires.few, c.loop-digit.invariant, c.from.ensures, digit-at c.args.digits.now c.loop-digit.digit-index c.requires.digits c.loop-digit-test.true)

pub loop-digit-preserved : goal.loop-digit-preserved
loop-digit-preserved c =
    digits_value-more _ _ _ _ c.requires.digits c.loop-digit-test.true c.loop-digit.invariant (omega (arith, c.from.ensures, digit-at c.args.digits.now c.loop-digit.digit-index c.requires.digits c.loop-digit-test.true))
