use Rattle.std.proofs.Common.{◌≡◌, ℕ, ◌-◌, ◌/◌, ◌%◌, ◌^◌, ◌<◌, ◌++◌, ◌∷◌, length, take, arith, ap, ◌∙◌, sym, List}
use Rattle.std.specs.Prelude.{decimal, replicate}
use Rattle.std.proofs.lemmas.Result.{on_ok_weaker}
use Rattle.std.proofs.lemmas.Fmt.{length-decimal-le}
use Rattle.decimal_text.specs.DecimalText.{whole_text, padded_text, fixed_text}
use Rattle.decimal_text.proofs.Appends.{padded_is, fixed_is, pieces_are}
use Rattle.decimal_text.proofs.writing.put_fixed.Goals as goal

pub overflow_sub-zeros : goal.overflow_sub-zeros
overflow_sub-zeros c =
    let rest : c.args.value % c.from-unit.result < 10 ^ c.args.places = omega (arith, c.from-unit.ensures, c.power_of_ten.ensures.value, c.power_of_ten.ensures.some) in
    let short = length-decimal-le c.args.places (c.args.value % c.from-unit.result) (omega arith) rest (omega arith) in
    let same : length c.as_bytes-digits.result.now ≡ length (decimal (c.args.value % c.from-unit.result)) = ap (λ (t : List ℕ). length t) (c.as_bytes-digits.ensures.value ∙ c.format.ensures.text) in
    omega arith

pub returns-clause-ok : goal.returns-clause-ok
returns-clause-ok c =
    let digits : c.as_bytes-digits.result.now ≡ decimal (c.args.value % c.from-unit.result) = c.as_bytes-digits.ensures.value ∙ c.format.ensures.text in
    let padded = padded_is (c.args.value % c.from-unit.result) c.args.places c.from.result c.as_bytes-digits.result.now digits c.from.ensures c.requires.few in
    let whole = fixed_is c.args.value c.args.places c.power_of_ten.result c.from-unit.result c.from-unit.ensures c.power_of_ten.ensures.value in
    let first : c.as_bytes.result.now ≡ whole_text (c.args.value / c.from-unit.result) = c.as_bytes.ensures.value ∙ c.format-2.ensures.text in
    let text : fixed_text c.args.value c.args.places ≡ c.as_bytes.result.now ++ 46 ∷ (take (c.from.result - length c.as_bytes-digits.result.now) (replicate {A = ℕ} 12 48) ++ c.as_bytes-digits.result.now) = rw first (whole ∙ ap (λ (t : List ℕ). whole_text (c.args.value / c.from-unit.result) ++ 46 ∷ t) padded) in
    on_ok_weaker c.push_three.result (λ e. e ∙ pieces_are c.args.out.now c.as_bytes.result.now c.as_bytes-digits.result.now (fixed_text c.args.value c.args.places) (c.from.result - length c.as_bytes-digits.result.now) text) c.push_three.ensures.ok
