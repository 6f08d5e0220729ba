-- Numbers capped at one past the limit, and digits that a loop goes over.
use Rattle.std.proofs.Common.{◌≡◌, ℕ, zero, suc, ◌+◌, ◌-◌, ◌*◌, ◌^◌, ◌<◌, ◌≤◌, inl, inr, List, [], ◌∷◌, length, get_or, take, None, Some, refl, sym, ap, ◌∙◌, arith}
use Rattle.std.specs.Option.{option_map}
use Rattle.std.specs.Char.{digit_value}
use Rattle.std.specs.Str.Parse.{AllDigits, digits_value_after}
use Rattle.std.proofs.lemmas.Bool.{cases_lt, ne_eqb, eq-eqb}
use Rattle.std.proofs.lemmas.List.{take_more}
use Rattle.decimal_text.specs.Reading.{first_not_zero}
use Rattle.decimal_text.specs.Scanning.{capped}
use Rattle.decimal_text.proofs.TenPowers.{ten_some, ten_grows}
use Rattle.decimal_text.proofs.Digits.{after_append}
use Rattle.decimal_text.proofs.Scans.{digit_at}

capped_digit : (x d : ℕ) → capped (capped x * 10 + d) ≡ capped (x * 10 + d)
capped_digit x d = omega arith

-- one digit more of a number that is capped
pub capped_more : (start number : ℕ) (ds : List ℕ) (i : ℕ) → AllDigits 10 ds → i < length ds → number ≡ capped (digits_value_after 10 start (take i ds))
    → capped (number * 10 + (get_or ds i 0 - 48)) ≡ capped (digits_value_after 10 start (take (i + 1) ds))
capped_more start number ds i h lt e =
    let d = (digit_at ds i h lt).value in
    let more : digits_value_after 10 start (take (i + 1) ds) ≡ digits_value_after 10 start (take i ds) * 10 + digit_value (get_or ds i 0) =
    ap (digits_value_after 10 start) (take_more ds i 0 lt) ∙ after_append start (take i ds) (get_or ds i 0 ∷ []) in
    ap (λ (x : ℕ). capped (x * 10 + (get_or ds i 0 - 48))) e
    ∙ capped_digit (digits_value_after 10 start (take i ds)) (get_or ds i 0 - 48)
    ∙ ap (λ (v : ℕ). capped (digits_value_after 10 start (take i ds) * 10 + v)) (sym d)
    ∙ ap (λ (x : ℕ). capped x) (sym more)

after_grows : (n : ℕ) (ds : List ℕ) → n ≤ digits_value_after 10 n ds
after_grows n [] = omega arith
after_grows n (d ∷ ds) = let h = after_grows (n * 10 + digit_value d) ds in omega arith

-- what is past the limit stays there
pub capped_after : (x : ℕ) (ds : List ℕ) → capped (digits_value_after 10 (capped x) ds) ≡ capped (digits_value_after 10 x ds)
capped_after x ds = elim (cases_lt x (10 ^ 18 + 1)) [
  | inl lt ↦ let same : capped x ≡ x = omega arith in rw same refl
  | inr ge ↦
      let same : capped x ≡ 10 ^ 18 + 1 = omega arith in
      let a = after_grows (10 ^ 18 + 1) ds in
      let b = after_grows x ds in
      rw same (omega arith)
]

times : (x p : ℕ) → 0 < p → x ≤ x * p
times x zero h = absurd (omega arith)
times x (suc p) h = omega arith

pub capped_zeros : (x zeros : ℕ) → capped (capped x * 10 ^ zeros) ≡ capped (x * 10 ^ zeros)
capped_zeros x zeros = elim (cases_lt x (10 ^ 18 + 1)) [
  | inl lt ↦ let same : capped x ≡ x = omega arith in rw same refl
  | inr ge ↦
      let same : capped x ≡ 10 ^ 18 + 1 = omega arith in
      let a = times (10 ^ 18 + 1) (10 ^ zeros) (ten_some zeros) in
      let b = times x (10 ^ zeros) (ten_some zeros) in
      rw same (omega arith)
]

pub past_limit : (n places : ℕ) → 0 < n → 18 < places → 10 ^ 18 + 1 ≡ capped (n * 10 ^ places)
past_limit zero places h lt = absurd (omega arith)
past_limit (suc n) places h lt =
    let big : 10 ^ 19 ≤ 10 ^ places = ten_grows 19 places (omega arith) in
    let more : 10 ^ places ≤ suc n * 10 ^ places = omega arith in
    omega arith

-- ---- the first digit other than 0

pub first_at : (ds : List ℕ) (i : ℕ) → i < length ds → ((k : ℕ) → k < i → get_or ds k 0 ≡ 48) → (get_or ds i 0 ≡ 48 → ⊥) → first_not_zero ds ≡ Some i
first_at [] i lt all_zero other = absurd (omega arith)
first_at (d ∷ ds) zero lt all_zero other = rw (ne_eqb d 48 other) refl
first_at (d ∷ ds) (suc i) lt all_zero other =
    rw (eq-eqb d 48 (all_zero 0 (omega arith))) (ap (option_map (λ k. suc k)) (first_at ds i (omega arith) (λ k h. all_zero (suc k) (omega arith)) other))

pub none_other : (ds : List ℕ) → ((k : ℕ) → k < length ds → get_or ds k 0 ≡ 48) → first_not_zero ds ≡ None
none_other [] all_zero = refl
none_other (d ∷ ds) all_zero =
    rw (eq-eqb d 48 (all_zero 0 (omega arith))) (ap (option_map (λ k. suc k)) (none_other ds (λ k h. all_zero (suc k) (omega arith))))
