-- Digits that a loop goes over.
use Rattle.std.proofs.Common.{◌≡◌, ℕ, zero, suc, ◌+◌, ◌-◌, ◌*◌, ◌^◌, ◌<◌, ◌≤◌, List, [], ◌∷◌, length, get_or, take, sym, subst, arith}
use Rattle.std.specs.Char.{digit_value}
use Rattle.std.specs.Str.Parse.{AllDigits, digits_value}
use Rattle.std.proofs.lemmas.Int.Digits.{digits_value-lt, digits_value_more}
use Rattle.std.proofs.lemmas.Str.{digit_value_digit}
use Rattle.std.proofs.lemmas.Str.Parse.{digit_from_value}
use Rattle.std.proofs.lemmas.List.{length-take-le}
use Rattle.decimal_text.proofs.TenPowers.{ten_grows}

pub digits_take : (k : ℕ) (ds : List ℕ) → AllDigits 10 ds → AllDigits 10 (take k ds)
digits_take zero ds h = tt
digits_take (suc k) [] h = tt
digits_take (suc k) (d ∷ ds) h = (h.0, digits_take k ds h.1)

-- a byte that is a digit, and its number
pub record IsDigitByte (b : ℕ) : Type 0 where
  pub low : 48 ≤ b
  pub high : b ≤ 57
  pub value : digit_value b ≡ b - 48

digit_byte : (b : ℕ) → digit_value b < 10 → IsDigitByte b
digit_byte b h =
    let r = digit_from_value b h in
    let e = digit_value_digit b r in
    record { low = r.0; high = r.1; value = moved (digit_value b) b e }
  where
    moved : (d b : ℕ) → d + 48 ≡ b → d ≡ b - 48
    moved d b e = omega arith

pub digit_at : (ds : List ℕ) (i : ℕ) → AllDigits 10 ds → i < length ds → IsDigitByte (get_or ds i 0)
digit_at [] i h lt = absurd (omega arith)
digit_at (d ∷ ds) zero h lt = digit_byte d h.0
digit_at (d ∷ ds) (suc i) h lt = digit_at ds i h.1 (omega arith)

-- one digit more of a number with few digits
pub number_step : (ds : List ℕ) (i number : ℕ) → AllDigits 10 ds → i < length ds → length ds ≤ 38 → number ≡ digits_value 10 (take i ds)
    → (number * 10 + (get_or ds i 0 - 48) ≡ digits_value 10 (take (i + 1) ds)) × (number * 10 + (get_or ds i 0 - 48) < 10 ^ 38)
number_step ds i number h lt few e =
    let d = (digit_at ds i h lt).value in
    let whole : number * 10 + (get_or ds i 0 - 48) ≡ digits_value 10 (take (i + 1) ds) = rw (e, ← d) (sym (digits_value_more 10 ds i lt)) in
    let len : length (take (i + 1) ds) ≡ i + 1 = length-take-le (i + 1) ds (omega arith) in
    let small : digits_value 10 (take (i + 1) ds) < 10 ^ (i + 1) = subst (λ (k : ℕ). digits_value 10 (take (i + 1) ds) < 10 ^ k) len (digits_value-lt 10 (take (i + 1) ds) (digits_take (i + 1) ds h)) in
    let grown : 10 ^ (i + 1) ≤ 10 ^ 38 = ten_grows (i + 1) 38 (omega arith) in
    (whole, less whole small grown)
  where
    less : {a b c d : ℕ} → a ≡ b → b < c → c ≤ d → a < d
    less e p q = omega arith
