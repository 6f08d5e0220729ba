-- What is written is a numeral that is worth what was written.
use Rattle.std.proofs.Common.{◌≡◌, ℕ, zero, suc, ◌+◌, ◌-◌, ◌*◌, ◌/◌, ◌%◌, ◌^◌, ◌<◌, ◌≤◌, List, ◌∷◌, ◌++◌, length, None, Some, Ok, refl, sym, ap, ◌∙◌, arith}
use Rattle.std.specs.Prelude.{replicate, decimal}
use Rattle.std.specs.Str.Parse.{AllDigits, digits_value}
use Rattle.std.proofs.Math.Nat.{div-le_self, mod-le, mod-lt}
use Rattle.std.proofs.lemmas.Nat.{div-add-mod'}
use Rattle.std.proofs.lemmas.Fmt.{decimal_is_IsNumeral_wide, length-decimal-le_wide}
use Rattle.std.proofs.lemmas.List.{append-nil, length-append, length-replicate}
use Rattle.decimal_text.specs.Numeral.{Numeral, behind_point, lowered, top, bottom, Spells, IsWorth}
use Rattle.decimal_text.specs.Reading.{numeral, whole_of, billionths_of}
use Rattle.decimal_text.specs.DecimalText.{whole_text, padded_text, fixed_text, IsFraction}
use Rattle.decimal_text.proofs.TenPowers.{ten_some}
use Rattle.decimal_text.proofs.Digits.{value_append}
use Rattle.decimal_text.proofs.Below.{digits_append}
use Rattle.decimal_text.proofs.Laws.{whole_only, billionths_only}

zeros_digits : (k : ℕ) → AllDigits 10 (replicate k 48)
zeros_digits zero = tt
zeros_digits (suc k) = (omega arith, zeros_digits k)

zeros_value : (k : ℕ) (ds : List ℕ) → digits_value 10 (replicate k 48 ++ ds) ≡ digits_value 10 ds
zeros_value zero ds = refl
zeros_value (suc k) ds = zeros_value k ds

pub whole_spells : (value : ℕ) → value < 2 ^ 128 → (n : Numeral) × Spells n (whole_text value) × IsWorth n value
whole_spells value lt =
    let d = decimal_is_IsNumeral_wide value (omega arith) in (
      numeral (decimal value) None None,
      record {
        is_numeral = record { whole = d.0.1; behind = tt; present = omega (arith, d.0.0); exponent = tt };
        bytes = simp append-nil;
      },
      rw append-nil (rw d.1 refl),
    )

padded_length : (r places : ℕ) → 1 ≤ places → r < 10 ^ places → r < 10 ^ 64 → length (padded_text r places) ≡ places
padded_length r places some lt fits =
    let short = length-decimal-le_wide places r some lt fits in
    length-append (replicate (places - length (decimal r)) 48) (decimal r) ∙ ap (λ (k : ℕ). k + length (decimal r)) (length-replicate (places - length (decimal r)) 48) ∙ omega arith

-- a whole part and so many digits behind a point
pub point_spells : (q r places : ℕ) → q < 10 ^ 64 → r < 10 ^ 64 → 1 ≤ places → r < 10 ^ places
    → (n : Numeral) × Spells n (whole_text q ++ 46 ∷ padded_text r places) × (length (behind_point n) ≡ places) × ((q * 10 ^ places + r) * bottom n ≡ 10 ^ places * top n)
point_spells q r places fits less some lt =
    let d = decimal_is_IsNumeral_wide q fits in
    let e = decimal_is_IsNumeral_wide r less in
    let len = padded_length r places some lt less in
    let behind : digits_value 10 (padded_text r places) ≡ r = zeros_value (places - length (decimal r)) (decimal r) ∙ e.1 in
    let all : digits_value 10 (decimal q ++ padded_text r places) ≡ q * 10 ^ places + r =
    value_append (decimal q) (padded_text r places) ∙ ap (λ (k : ℕ). digits_value 10 (decimal q) * 10 ^ k + digits_value 10 (padded_text r places)) len
    ∙ ap (λ (k : ℕ). k * 10 ^ places + digits_value 10 (padded_text r places)) d.1 ∙ ap (λ (k : ℕ). q * 10 ^ places + k) behind in (
      numeral (decimal q) (Some (padded_text r places)) None,
      record {
        is_numeral = record { whole = d.0.1; behind = digits_append (replicate (places - length (decimal r)) 48) (decimal r) (zeros_digits (places - length (decimal r))) e.0.1; present = omega (arith, d.0.0); exponent = tt };
        bytes = ap (λ (t : List ℕ). decimal q ++ 46 ∷ t) (append-nil (padded_text r places));
      },
      len,
      turned (q * 10 ^ places + r) (10 ^ places) (digits_value 10 (decimal q ++ padded_text r places)) (10 ^ (length (padded_text r places) + 0)) all (ap (λ (k : ℕ). 10 ^ k) (plus_none (length (padded_text r places)) places len)),
    )
  where
    plus_none : (k places : ℕ) → k ≡ places → k + 0 ≡ places
    plus_none k places e = omega arith

    turned : (v p d b : ℕ) → d ≡ v → b ≡ p → v * b ≡ p * (d * 1)
    turned v p d b e f = rw (e, f) (omega arith)

pub fixed_spells : (value places : ℕ) → value < 2 ^ 128 → 1 ≤ places → IsFraction (fixed_text value places) value places
unfolding fixed_text
fixed_spells value places lt some =
    let p = ten_some places in
    let whole : value / 10 ^ places ≤ value = div-le_self value (10 ^ places) in
    let rest : value % 10 ^ places < 10 ^ places = mod-lt value p in
    let less : value % 10 ^ places ≤ value = mod-le value (10 ^ places) in
    let parts : value / 10 ^ places * 10 ^ places + value % 10 ^ places ≡ value = div-add-mod' value (10 ^ places) in
    let (n, sp, len, worth) = point_spells (value / 10 ^ places) (value % 10 ^ places) places (omega arith) (omega arith) some rest in
    (n, sp, len, ap (λ (v : ℕ). v * bottom n) (sym parts) ∙ worth)

-- ---- what is written is read again

pub whole_again : (value : ℕ) → value ≤ 10 ^ 18 → whole_of (whole_text value) ≡ Ok value
whole_again value le =
    let (n, sp, worth) = whole_spells value (omega arith) in
    let d = decimal_is_IsNumeral_wide value (omega arith) in
    let short = length-decimal-le_wide 19 value (omega arith) (omega arith) (omega arith) in
    whole_only (whole_text value) (Ok value) (n, record { length = record { some = d.0.0; few = omega arith }; spells = sp }, worth, le)

nine_length : (value : ℕ) → value ≤ 10 ^ 18 → (0 < length (fixed_text value 9)) × (length (fixed_text value 9) ≤ 40)
unfolding fixed_text
nine_length value le =
    let whole : value / 10 ^ 9 ≤ 10 ^ 9 = omega arith in
    let rest : value % 10 ^ 9 < 10 ^ 9 = omega arith in
    let short = length-decimal-le_wide 10 (value / 10 ^ 9) (omega arith) (omega arith) (omega arith) in
    let behind = padded_length (value % 10 ^ 9) 9 (omega arith) rest (omega arith) in
    let all = length-append (whole_text (value / 10 ^ 9)) (46 ∷ padded_text (value % 10 ^ 9) 9) in
    (omega arith, omega arith)

pub nine_again : (value : ℕ) → value ≤ 10 ^ 18 → billionths_of (fixed_text value 9) ≡ Ok value
nine_again value le =
    let (n, sp, len, worth) = fixed_spells value 9 (omega arith) (omega arith) in
    let few = nine_length value le in
    let b = ten_some (length (behind_point n) + lowered n.exponent) in
    billionths_only (fixed_text value 9) (Ok value)
    (n, record { length = record { some = few.0; few = few.1 }; spells = sp }, record { at_least = omega (arith, worth); less_than_more = omega (arith, worth) }, le)
