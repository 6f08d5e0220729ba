-- What is answered to a numeral is what it is worth, and its first digit below one.
use Rattle.std.proofs.Common.{◌≡◌, ℕ, zero, suc, ◌+◌, ◌-◌, ◌*◌, ◌^◌, ◌<◌, ◌≤◌, inl, inr, List, [], ◌∷◌, ◌++◌, length, get_or, take, drop, Option, None, Some, refl, sym, ap, subst, ◌∙◌, arith}
use Rattle.std.specs.Option.{option_map}
use Rattle.std.specs.Str.Parse.{AllDigits, digits_value}
use Rattle.std.proofs.Math.Nat.{mul-le-mul_right}
use Rattle.std.proofs.lemmas.Nat.{pow-add}
use Rattle.std.proofs.lemmas.Bool.{cases_order}
use Rattle.std.proofs.lemmas.List.{length-append, length-drop, get_or-drop}
use Rattle.decimal_text.specs.Numeral.{Numeral, IsNumeral, digits_of, behind_point, raised, lowered, top, bottom, IsWorth, IsWhole, IsBillionths}
use Rattle.decimal_text.specs.Faults.{place_of, IsFirstBelowOne}
use Rattle.decimal_text.specs.Reading.{kept, scaled, first_not_zero, first_below_one}
use Rattle.decimal_text.proofs.TenPowers.{ten_some}
use Rattle.decimal_text.proofs.Digits.{FirstNotZero, first_not_zero_is}
use Rattle.decimal_text.proofs.Worth.{Splits, splits, digits_drop}

pub digits_append : (xs ys : List ℕ) → AllDigits 10 xs → AllDigits 10 ys → AllDigits 10 (xs ++ ys)
digits_append [] ys p q = q
digits_append (x ∷ xs) ys p q = (p.0, digits_append xs ys p.1 q)

-- by ten to the shift, a numeral is worth the number of the digits that are kept, and less than one more
pub numeral_splits : (shift : ℕ) (n : Numeral) → IsNumeral n
    → Splits (10 ^ shift * top n) (bottom n) (scaled shift n) (digits_value 10 (drop (kept shift n) (digits_of n))) (10 ^ (shift + raised n.exponent))
unfolding scaled
numeral_splits shift n is =
    let ds = digits_of n in
    let all : AllDigits 10 (digits_of n) = digits_append n.whole (behind_point n) is.whole is.behind in
    let len : length (digits_of n) ≡ length n.whole + length (behind_point n) = length-append n.whole (behind_point n) in
    let s = splits (digits_of n) (length n.whole) (length (behind_point n)) (shift + raised n.exponent) (lowered n.exponent) (kept shift n) all len (omega (arith, is.present)) (omega arith) in
    subst (λ (t : ℕ). Splits t (bottom n) (digits_value 10 (take (kept shift n) (digits_of n)) * 10 ^ (kept shift n - length (digits_of n))) (digits_value 10 (drop (kept shift n) (digits_of n))) (10 ^ (shift + raised n.exponent)))
    (moved (digits_value 10 (digits_of n)) (10 ^ shift) (10 ^ raised n.exponent) (10 ^ (shift + raised n.exponent)) (pow-add 10 shift (raised n.exponent))) s
  where
    moved : (d s r both : ℕ) → both ≡ s * r → d * both ≡ s * (d * r)
    moved d s r both e = rw e (omega arith)

floor_is : (t b v l : ℕ) → t ≡ v * b + l → l < b → (v * b ≤ t) × (t < (v + 1) * b)
floor_is t b v l e lt = (omega arith, omega arith)

pub billionths_are : (n : Numeral) → IsNumeral n → IsBillionths n (scaled 9 n)
billionths_are n is =
    let s = numeral_splits 9 n is in
    let f = floor_is (10 ^ 9 * top n) (bottom n) (scaled 9 n) (digits_value 10 (drop (kept 9 n) (digits_of n)) * 10 ^ (9 + raised n.exponent)) s.parts s.less in
    record { at_least = f.0; less_than_more = f.1 }

-- one number alone is a fraction rounded down
pub one_floor : (t b v w : ℕ) → v * b ≤ t → t < (v + 1) * b → w * b ≤ t → t < (w + 1) * b → v ≡ w
one_floor t b v w p q r s =
    elim (cases_order v w) [
      | inl e ↦ e
      | inr o ↦ elim o [
        | inl lt ↦ let h : (v + 1) * b ≤ w * b = mul-le-mul_right b (omega arith) in absurd (omega arith)
        | inr gt ↦ let h : (w + 1) * b ≤ v * b = mul-le-mul_right b (omega arith) in absurd (omega arith)
      ]
    ]

pub one_billionths : (n : Numeral) (v w : ℕ) → IsBillionths n v → IsBillionths n w → v ≡ w
one_billionths n v w p q = one_floor (10 ^ 9 * top n) (bottom n) v w p.at_least p.less_than_more q.at_least q.less_than_more

pub one_worth : (n : Numeral) (v w : ℕ) → IsWorth n v → IsWorth n w → v ≡ w
one_worth n v w p q =
    let b : 0 < bottom n = ten_some (length (behind_point n) + lowered n.exponent) in
    one_floor (top n) (bottom n) v w (omega (arith, p)) (omega (arith, p)) (omega (arith, q)) (omega (arith, q))

-- a numeral has no digit below one but 0, or a first such digit, and is then not whole
abbrev pub BelowOne : Numeral → Option ℕ → Type 0
BelowOne n None = IsWorth n (scaled 0 n)
BelowOne n (Some at) = (IsWhole n → ⊥) × (i : ℕ) × IsFirstBelowOne n i at

worth_from : (t b v l u : ℕ) → 1 * t ≡ v * b + l * u → l ≡ 0 → v * b ≡ t
worth_from t b v zero u e z = omega arith
worth_from t b v (suc l) u e z = absurd (omega arith)

some_left : (t b v l u w : ℕ) → 1 * t ≡ v * b + l * u → l * u < b → 0 < u → 0 < l → w * b ≡ t → ⊥
some_left t b v zero u w e lt us ls h = omega arith
some_left t b v (suc l) zero w e lt us ls h = omega arith
some_left t b v (suc l) (suc u) w e lt us ls h =
    let same : w ≡ v = one_floor t b w v (omega arith) (omega arith) (omega arith) (omega arith) in
    let both : w * b ≡ v * b = ap (λ (x : ℕ). x * b) same in
    omega arith

first_below : (n : Numeral) (j : ℕ) → (j < length (drop (kept 0 n) (digits_of n))) × (get_or (drop (kept 0 n) (digits_of n)) j 0 ≡ 48 → ⊥) × ((k : ℕ) → k < j → get_or (drop (kept 0 n) (digits_of n)) k 0 ≡ 48)
    → IsFirstBelowOne n (kept 0 n + j) (place_of n (kept 0 n + j))
first_below n j (within, other, zeros) =
    let ds = digits_of n in
    let len = length-drop (kept 0 n) (digits_of n) in
    record {
      within = omega arith;
      below_one = omega arith;
      not_zero = λ e. other (get_or-drop (kept 0 n) (digits_of n) j 0 ∙ e);
      first = λ k lt low.
          let k-is : kept 0 n + (k - kept 0 n) ≡ k = omega arith in
          ap (λ (i : ℕ). get_or (digits_of n) i 0) (sym k-is) ∙ sym (get_or-drop (kept 0 n) (digits_of n) (k - kept 0 n) 0) ∙ zeros (k - kept 0 n) (omega arith);
      place = refl;
    }

below_is : (n : Numeral) (o : Option ℕ) → IsNumeral n → FirstNotZero (drop (kept 0 n) (digits_of n)) o → BelowOne n (option_map (λ k. place_of n (kept 0 n + k)) o)
below_is n None is none =
    let s = numeral_splits 0 n is in
    worth_from (top n) (bottom n) (scaled 0 n) (digits_value 10 (drop (kept 0 n) (digits_of n))) (10 ^ (0 + raised n.exponent)) s.parts none
below_is n (Some j) is some =
    let s = numeral_splits 0 n is in
    let all : AllDigits 10 (digits_of n) = digits_append n.whole (behind_point n) is.whole is.behind in (
      λ (w, e). some_left (top n) (bottom n) (scaled 0 n) (digits_value 10 (drop (kept 0 n) (digits_of n))) (10 ^ (0 + raised n.exponent)) w s.parts s.less s.unit_some (some.3 (digits_drop (kept 0 n) (digits_of n) all)) e,
      kept 0 n + j,
      first_below n j (some.0, some.1, some.2),
    )

pub below_one_is : (n : Numeral) → IsNumeral n → BelowOne n (first_below_one n)
unfolding first_below_one
below_one_is n is = below_is n (first_not_zero (drop (kept 0 n) (digits_of n))) is (first_not_zero_is (drop (kept 0 n) (digits_of n)))

-- there is one first digit below one
pub one_first : (n : Numeral) (i j a b : ℕ) → IsFirstBelowOne n i a → IsFirstBelowOne n j b → a ≡ b
one_first n i j a b p q =
    elim (cases_order i j) [
      | inl e ↦ p.place ∙ ap (place_of n) e ∙ sym q.place
      | inr o ↦ elim o [
        | inl lt ↦ absurd (p.not_zero (q.first i lt p.below_one))
        | inr gt ↦ absurd (q.not_zero (p.first j gt q.below_one))
      ]
    ]
