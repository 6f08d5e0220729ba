use Rattle.std.proofs.Common.{sym, arith}
use Rattle.decimal_text.proofs.Caps.{first_at, none_other}
use Rattle.decimal_text.proofs.scaling.first_not_zero.Goals as goal

pub returns-then-digit-ne48-clause-value : goal.returns-then-digit-ne48-clause-value
returns-then-digit-ne48-clause-value c = sym (first_at c.args.digits.now c.loop-i.i c.loop-i-test.true c.loop-i.invariant c.if-digit-ne48.true)

pub returns-clause-value : goal.returns-clause-value
returns-clause-value c = sym (none_other c.args.digits.now (λ k lt. c.loop-i.invariant k (omega arith)))
