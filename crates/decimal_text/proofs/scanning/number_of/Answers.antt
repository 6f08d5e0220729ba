use Rattle.std.proofs.Common.{arith}
use Rattle.decimal_text.proofs.Scans.{digit_at, number_step}
use Rattle.decimal_text.proofs.scanning.number_of.Goals as goal

pub overflow_mul-number : goal.overflow_mul-number
overflow_mul-number c =
    let s = number_step c.args.digits.now c.loop-digit.digit-index c.loop-digit.number c.requires.digits c.loop-digit-test.true c.requires.few c.loop-digit.invariant.value in
    omega (arith, s.1)

pub overflow_sub-digit : goal.overflow_sub-digit
overflow_sub-digit c = (digit_at c.args.digits.now c.loop-digit.digit-index c.requires.digits c.loop-digit-test.true).low

pub overflow_add-number : goal.overflow_add-number
overflow_add-number c =
    let s = number_step c.args.digits.now c.loop-digit.digit-index c.loop-digit.number c.requires.digits c.loop-digit-test.true c.requires.few c.loop-digit.invariant.value in
    omega (arith, s.1, c.from.ensures)

pub loop-digit-preserved : goal.loop-digit-preserved
loop-digit-preserved c =
    let s = number_step c.args.digits.now c.loop-digit.digit-index c.loop-digit.number c.requires.digits c.loop-digit-test.true c.requires.few c.loop-digit.invariant.value in
    record { value = rw c.from.ensures s.0; small = rw c.from.ensures s.1 }
