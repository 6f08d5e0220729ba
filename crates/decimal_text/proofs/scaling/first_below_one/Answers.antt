use Rattle.std.proofs.Common.{◌∙◌, sym}
use Rattle.decimal_text.proofs.Cuts.{found_before, found_after, found_none, slice_rest}
use Rattle.decimal_text.proofs.scaling.first_below_one.Goals as goal

pub returns-in-Some : goal.returns-in-Some
returns-in-Some c = λ n a.
    let k = c.kept_digits-kept.result in
    let p = c.args.parts.now in
    found_before n p.whole.now p.behind.now p.raised p.lowered k.before k.after k.zeros c.in-Some.zeros a c.kept_digits-kept.ensures (sym (slice_rest k.before p.whole.now) ∙ sym c.in-Some.ensures.value)

pub returns-in_err-zeros : goal.returns-in_err-zeros
returns-in_err-zeros c = λ n a.
    let k = c.kept_digits-kept.result in
    let p = c.args.parts.now in
    c.from_residual.ensures ∙ found_none n p.whole.now p.behind.now p.raised p.lowered k.before k.after k.zeros a c.kept_digits-kept.ensures (sym (slice_rest k.before p.whole.now) ∙ sym c.in_default.ensures.value) (sym (slice_rest k.after p.behind.now) ∙ sym c.in_err-zeros.ensures.value)

pub returns : goal.returns
returns c = λ n a.
    let k = c.kept_digits-kept.result in
    let p = c.args.parts.now in
    found_after n p.whole.now p.behind.now p.raised p.lowered k.before k.after k.zeros c.in_ok-zeros.zeros a c.kept_digits-kept.ensures (sym (slice_rest k.before p.whole.now) ∙ sym c.in_default.ensures.value) (sym (slice_rest k.after p.behind.now) ∙ sym c.in_ok-zeros.ensures.value)
