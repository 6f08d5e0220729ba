use Rattle.std.proofs.Common.{ℕ, ◌∷◌, List, Some, refl, ap, ◌∙◌}
use Rattle.decimal_text.proofs.scanning.split_point.Goals as goal

pub returns-in-Some-eq46-default : goal.returns-in-Some-eq46-default
returns-in-Some-eq46-default c =
    let whole = c.in-Some-eq46-default.ensures.cases.0 ∙ ap (λ (b : ℕ). b ∷ c.in-Some-eq46-default.rest.now) c.in-Some-eq46-default.field-0-0-test ∙ ap (λ (t : List ℕ). 46 ∷ t) c.split_digits.ensures.parts in
    (Some c.split_digits.result.0.now, (whole, c.split_digits.ensures.digits, c.split_digits.ensures.ends), refl)
