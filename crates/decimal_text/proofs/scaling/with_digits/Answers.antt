use Rattle.std.proofs.Common.{ℕ, ◌*◌, ◌+◌, ap, ◌∙◌}
use Rattle.decimal_text.specs.Scanning.{capped}
use Rattle.decimal_text.proofs.Scans.{digit_at}
use Rattle.decimal_text.proofs.Caps.{capped_more}
use Rattle.decimal_text.proofs.scaling.with_digits.Goals as goal

pub overflow_sub-digit : goal.overflow_sub-digit
overflow_sub-digit c = (digit_at c.args.digits.now c.loop-digit.digit-index c.requires.digits c.loop-digit-test.true).low

pub loop-digit-preserved : goal.loop-digit-preserved
loop-digit-preserved c =
    c.min-number.ensures ∙ ap (λ (d : ℕ). capped (c.loop-digit.number * 10 + d)) c.from.ensures
    ∙ capped_more c.args.start c.loop-digit.number c.args.digits.now c.loop-digit.digit-index c.requires.digits c.loop-digit-test.true c.loop-digit.invariant
