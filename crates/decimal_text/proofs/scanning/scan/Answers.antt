use Rattle.std.proofs.Common.{ℕ, List, Result, Err, refl, sym, ap, subst, ◌∙◌, inl, inr}
use Rattle.std.specs.Str.Parse.{digits_value}
use Rattle.std.proofs.lemmas.Bool.{false≢true}
use Rattle.std.proofs.lemmas.List.{nil_from_length}
use Rattle.decimal_text.specs.Numeral.{Numeral}
use Rattle.decimal_text.specs.Scanning.{SplitsPoint}
use Rattle.decimal_text.proofs.ScanLaws.{without_digit, without_letter, digits_alone, cut_exponent, whole_exponent, minus_exponent, plus_exponent, none_there, some_there}
use Rattle.decimal_text.proofs.scanning.scan.Goals as goal

pub returns-then-not-has_digit-clause-err : goal.returns-then-not-has_digit-clause-err
returns-then-not-has_digit-clause-err c =
    let (f, p, b) = c.split_point.ensures in
    without_digit c.args.field.now c.split_digits.result.0.now c.split_digits.result.1.now c.split_point.result.0.now c.split_point.result.1.now f c.split_digits.ensures p b
    (λ lt. false≢true (c.if-not-has_digit.ensures.1 lt))

pub returns-in_default-clause-read : goal.returns-in_default-clause-read
returns-in_default-clause-read c =
    let (f, p, b) = c.split_point.ensures in
    digits_alone c.args.field.now c.split_digits.result.0.now c.split_digits.result.1.now c.split_point.result.0.now c.split_point.result.1.now f c.split_digits.ensures p b
    (c.if-not-has_digit.ensures.0 refl) (nil_from_length _ c.in_default.ensures.cases)

pub returns-then-not-is_letter-clause-err : goal.returns-then-not-is_letter-clause-err
returns-then-not-is_letter-clause-err c =
    let (f, p, b) = c.split_point.ensures in
    let e = c.in-Some.ensures.cases.0 in
    without_letter c.args.field.now c.split_digits.result.0.now c.split_digits.result.1.now c.in-Some.after_letter.now c.in-Some.letter.now f c.split_digits.ensures
    (subst (λ (t : List ℕ). SplitsPoint c.split_digits.result.1.now f t) e p) (λ l. false≢true (c.if-not-is_letter.ensures.1 l))
    ∙ ap (λ (t : List ℕ). let r : Result Numeral (List ℕ) = Err t in r) (sym e)

pub returns-then-is_empty-clause-err : goal.returns-then-is_empty-clause-err
returns-then-is_empty-clause-err c =
    let (f, p, b) = c.split_point.ensures in
    let (s, sp, minus) = c.split_sign-is_minus.ensures in
    let e = c.in-Some.ensures.cases.0 in
    cut_exponent c.args.field.now c.split_digits.result.0.now c.split_digits.result.1.now c.split_point.result.0.now c.in-Some.after_letter.now c.split_sign-is_minus.result.1.now
    c.split_digits-2.result.0.now c.split_digits-2.result.1.now c.in-Some.letter.now f s c.split_digits.ensures (subst (λ (t : List ℕ). SplitsPoint c.split_digits.result.1.now f t) e p) b
    (c.if-not-has_digit.ensures.0 refl) (c.if-not-is_letter.ensures.0 refl) sp c.split_digits-2.ensures (inl (none_there _ c.if-is_empty.ensures))

pub returns-then-not-is_empty-clause-err : goal.returns-then-not-is_empty-clause-err
returns-then-not-is_empty-clause-err c =
    let (f, p, b) = c.split_point.ensures in
    let (s, sp, minus) = c.split_sign-is_minus.ensures in
    let e = c.in-Some.ensures.cases.0 in
    cut_exponent c.args.field.now c.split_digits.result.0.now c.split_digits.result.1.now c.split_point.result.0.now c.in-Some.after_letter.now c.split_sign-is_minus.result.1.now
    c.split_digits-2.result.0.now c.split_digits-2.result.1.now c.in-Some.letter.now f s c.split_digits.ensures (subst (λ (t : List ℕ). SplitsPoint c.split_digits.result.1.now f t) e p) b
    (c.if-not-has_digit.ensures.0 refl) (c.if-not-is_letter.ensures.0 refl) sp c.split_digits-2.ensures (inr (some_there _ c.if-not-is_empty.ensures))

pub returns-then-is_minus-clause-read : goal.returns-then-is_minus-clause-read
returns-then-is_minus-clause-read c =
    let (f, p, b) = c.split_point.ensures in
    let (s, sp, minus) = c.split_sign-is_minus.ensures in
    let e = c.in-Some.ensures.cases.0 in
    let x = minus_exponent s (digits_value 10 c.split_digits-2.result.0.now) c.number_of-exponent.result (minus.0 c.if-is_minus.true) c.number_of-exponent.ensures.value in
    whole_exponent c.args.field.now c.split_digits.result.0.now c.split_digits.result.1.now c.split_point.result.0.now c.in-Some.after_letter.now c.split_sign-is_minus.result.1.now
    c.split_digits-2.result.0.now c.split_digits-2.result.1.now c.in-Some.letter.now f s 0 c.number_of-exponent.result c.split_digits.ensures (subst (λ (t : List ℕ). SplitsPoint c.split_digits.result.1.now f t) e p) b
    (c.if-not-has_digit.ensures.0 refl) (c.if-not-is_letter.ensures.0 refl) sp c.split_digits-2.ensures (some_there _ c.if-is_empty.ensures) (nil_from_length _ (none_there _ c.if-not-is_empty.ensures)) x.0 x.1

pub returns-clause-read : goal.returns-clause-read
returns-clause-read c =
    let (f, p, b) = c.split_point.ensures in
    let (s, sp, minus) = c.split_sign-is_minus.ensures in
    let e = c.in-Some.ensures.cases.0 in
    let x = plus_exponent s (digits_value 10 c.split_digits-2.result.0.now) c.number_of-exponent.result (λ m. false≢true (sym c.if-is_minus.false ∙ minus.1 m)) c.number_of-exponent.ensures.value in
    whole_exponent c.args.field.now c.split_digits.result.0.now c.split_digits.result.1.now c.split_point.result.0.now c.in-Some.after_letter.now c.split_sign-is_minus.result.1.now
    c.split_digits-2.result.0.now c.split_digits-2.result.1.now c.in-Some.letter.now f s c.number_of-exponent.result 0 c.split_digits.ensures (subst (λ (t : List ℕ). SplitsPoint c.split_digits.result.1.now f t) e p) b
    (c.if-not-has_digit.ensures.0 refl) (c.if-not-is_letter.ensures.0 refl) sp c.split_digits-2.ensures (some_there _ c.if-is_empty.ensures) (nil_from_length _ (none_there _ c.if-not-is_empty.ensures)) x.0 x.1
