use Rattle.std.proofs.Common.{◌∙◌}
use Rattle.decimal_text.proofs.Scans.{digits_take}
use Rattle.decimal_text.proofs.Cuts.{scaled_parts}
use Rattle.decimal_text.proofs.scaling.scaled.Goals as goal

pub with_digits-whole-requires-clause-digits : goal.with_digits-whole-requires-clause-digits
with_digits-whole-requires-clause-digits c = digits_take c.kept_digits-kept.result.before c.args.parts.now.whole.now c.requires.fit.whole_digits

pub with_digits-number-requires-clause-digits : goal.with_digits-number-requires-clause-digits
with_digits-number-requires-clause-digits c = digits_take c.kept_digits-kept.result.after c.args.parts.now.behind.now c.requires.fit.behind_digits

pub returns : goal.returns
returns c = λ n a.
    let k = c.kept_digits-kept.result in
    c.with_zeros.ensures
    ∙ scaled_parts c.args.shift n c.args.parts.now.whole.now c.args.parts.now.behind.now c.args.parts.now.raised c.args.parts.now.lowered k.before k.after k.zeros
    c.with_digits-whole.result c.with_digits-number.result a c.kept_digits-kept.ensures c.with_digits-whole.ensures c.with_digits-number.ensures
