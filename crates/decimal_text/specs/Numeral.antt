-- A numeral as it is spelled, and the fraction that it is worth. Bytes are ASCII codes: 43 is `+`, 45 is
-- `-`, 46 is the point, and 69 and 101 are `E` and `e`.
use Rattle.std.specs.Prelude.{◌≡◌, ℕ, ◌+◌, ◌*◌, ◌^◌, ◌<◌, ◌≤◌, ◌⊎◌, List, [], ◌∷◌, ◌++◌, length, Option, None, Some, IfSome, unwrap_or}
use Rattle.std.specs.Str.Parse.{AllDigits, digits_value}

pub data Sign : Type 0 where
  Unsigned : Sign
  Plus : Sign
  Minus : Sign

abbrev pub sign_bytes : Sign → List ℕ
sign_bytes Unsigned = []
sign_bytes Plus = 43 ∷ []
sign_bytes Minus = 45 ∷ []

pub record Exponent : Type 0 where
  pub letter : ℕ
  pub sign : Sign
  pub digits : List ℕ

-- The digits before a point, those behind it where there is a point, and an exponent where there is one.
pub record Numeral : Type 0 where
  pub whole : List ℕ
  pub fraction : Option (List ℕ)
  pub exponent : Option Exponent

abbrev pub point_bytes : Option (List ℕ) → List ℕ
point_bytes None = []
point_bytes (Some behind) = 46 ∷ behind

abbrev pub exponent_bytes : Option Exponent → List ℕ
exponent_bytes None = []
exponent_bytes (Some x) = x.letter ∷ (sign_bytes x.sign ++ x.digits)

-- the bytes of a numeral
abbrev pub spelling : Numeral → List ℕ
spelling n = n.whole ++ (point_bytes n.fraction ++ exponent_bytes n.exponent)

-- the digits behind the point
abbrev pub behind_point : Numeral → List ℕ
behind_point n = unwrap_or n.fraction []

-- all digits but the exponent's
abbrev pub digits_of : Numeral → List ℕ
digits_of n = n.whole ++ behind_point n

-- an exponent's letter, and at least one digit
pub record IsExponent (x : Exponent) : Type 0 where
  pub letter : (x.letter ≡ 101) ⊎ (x.letter ≡ 69)
  pub digits : AllDigits 10 x.digits
  pub present : 0 < length x.digits

-- at least one digit before the exponent, on either side of a point
pub record IsNumeral (n : Numeral) : Type 0 where
  pub whole : AllDigits 10 n.whole
  pub behind : AllDigits 10 (behind_point n)
  pub present : 0 < length n.whole + length (behind_point n)
  pub exponent : IfSome n.exponent IsExponent

-- the field spells this numeral
pub record Spells (n : Numeral) (field : List ℕ) : Type 0 where
  pub is_numeral : IsNumeral n
  pub bytes : spelling n ≡ field

-- ---- what a numeral is worth

-- how many powers of ten an exponent raises by
abbrev pub raised_by : Sign → ℕ → ℕ
raised_by Unsigned e = e
raised_by Plus e = e
raised_by Minus e = 0

-- how many powers of ten an exponent lowers by
abbrev pub lowered_by : Sign → ℕ → ℕ
lowered_by Unsigned e = 0
lowered_by Plus e = 0
lowered_by Minus e = e

abbrev pub raised : Option Exponent → ℕ
raised None = 0
raised (Some x) = raised_by x.sign (digits_value 10 x.digits)

abbrev pub lowered : Option Exponent → ℕ
lowered None = 0
lowered (Some x) = lowered_by x.sign (digits_value 10 x.digits)

-- A numeral is worth the fraction `top n / bottom n`: its digits as one number, by ten to the exponent,
-- over ten for each digit behind the point.
abbrev pub top : Numeral → ℕ
top n = digits_value 10 (digits_of n) * 10 ^ raised n.exponent

abbrev pub bottom : Numeral → ℕ
bottom n = 10 ^ (length (behind_point n) + lowered n.exponent)

-- the numeral is worth the whole number v
abbrev pub IsWorth : Numeral → ℕ → Type 0
IsWorth n v = v * bottom n ≡ top n

abbrev pub IsWhole : Numeral → Type 0
IsWhole n = (v : ℕ) × IsWorth n v

-- v is what the numeral is worth in billionths, rounded down
pub record IsBillionths (n : Numeral) (v : ℕ) : Type 0 where
  pub at_least : v * bottom n ≤ 10 ^ 9 * top n
  pub less_than_more : 10 ^ 9 * top n < (v + 1) * bottom n
