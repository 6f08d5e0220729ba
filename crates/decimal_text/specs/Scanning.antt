-- The parts of a field that a reader takes: digits at the front, a point with digits, a sign.
use Rattle.std.specs.Prelude.{◌≡◌, ℕ, ◌-◌, min, ◌+◌, ◌^◌, ◌<◌, ◌≤◌, ◌≢◌, length, List, [], ◌∷◌, ◌++◌, Option, Some, None, Result, Ok, Err}
use Rattle.std.specs.Char.{digit_value}
use Rattle.std.specs.Str.Parse.{AllDigits}
use Rattle.decimal_text.specs.declared.fault.NumberFault.{NumberFault}
use Rattle.decimal_text.specs.declared.scanning.Parts.{Parts}
use Rattle.decimal_text.specs.Numeral.{Sign, Unsigned, Plus, Minus, Numeral, behind_point, raised, lowered}

-- the first byte is no digit
abbrev pub NoDigitFirst : List ℕ → Type 0
NoDigitFirst [] = Unit {0}
NoDigitFirst (b ∷ bs) = 10 ≤ digit_value b

-- the first byte is another
abbrev pub OtherFirst : ℕ → List ℕ → Type 0
OtherFirst c [] = Unit {0}
OtherFirst c (b ∷ bs) = b ≢ c

-- as many digits as stand at the front
pub record SplitsDigits (bytes front rest : List ℕ) : Type 0 where
  pub parts : bytes ≡ front ++ rest
  pub digits : AllDigits 10 front
  pub ends : NoDigitFirst rest

-- a point with the digits behind it, or neither
abbrev pub SplitsPoint : List ℕ → Option (List ℕ) → List ℕ → Type 0
SplitsPoint bytes None rest = (bytes ≡ rest) × OtherFirst 46 rest
SplitsPoint bytes (Some behind) rest = (bytes ≡ 46 ∷ (behind ++ rest)) × AllDigits 10 behind × NoDigitFirst rest

-- a sign, or none where none stands
abbrev pub SplitsSign : List ℕ → Sign → List ℕ → Type 0
SplitsSign bytes Unsigned rest = (bytes ≡ rest) × OtherFirst 43 rest × OtherFirst 45 rest
SplitsSign bytes Plus rest = bytes ≡ 43 ∷ rest
SplitsSign bytes Minus rest = bytes ≡ 45 ∷ rest

-- what a reader keeps of a numeral: its digits before and behind the point, and its exponent either way
pub record AreParts (n : Numeral) (whole behind : List ℕ) (up low : ℕ) : Type 0 where
  pub whole-is : whole ≡ n.whole
  pub behind-is : behind ≡ behind_point n
  pub up-is : up ≡ raised n.exponent
  pub low-is : low ≡ lowered n.exponent

-- digits of which there are at most 40, and an exponent of at most 38 digits
pub record Fit (whole behind : List ℕ) (up : ℕ) : Type 0 where
  pub whole_digits : AllDigits 10 whole
  pub behind_digits : AllDigits 10 behind
  pub few : length whole + length behind ≤ 40
  pub up_small : up < 10 ^ 38

-- the numeral that is read has these parts
abbrev pub ReadsAs : Result Numeral (List ℕ) → List ℕ → List ℕ → ℕ → ℕ → Type 0
ReadsAs (Err rest) whole behind up low = ⊥
ReadsAs (Ok n) whole behind up low = AreParts n whole behind up low

-- the same of a field's numeral
abbrev pub NumeralAs : Result Numeral NumberFault → List ℕ → List ℕ → ℕ → ℕ → Type 0
NumeralAs (Err fault) whole behind up low = ⊥
NumeralAs (Ok n) whole behind up low = AreParts n whole behind up low

-- ---- the same of the parts as the reader holds them

abbrev pub HasParts : Numeral → Parts → Type 0
HasParts n p = AreParts n p.whole.now p.behind.now p.raised p.lowered

abbrev pub AreFit : Parts → Type 0
AreFit p = Fit p.whole.now p.behind.now p.raised

abbrev pub ReadsParts : Result Numeral (List ℕ) → Parts → Type 0
ReadsParts read p = ReadsAs read p.whole.now p.behind.now p.raised p.lowered

abbrev pub ReadsNumeral : Result Numeral NumberFault → Parts → Type 0
ReadsNumeral read p = NumeralAs read p.whole.now p.behind.now p.raised p.lowered

-- how many digits weigh one or more, of the parts by ten to the shift
abbrev pub kept_of : Parts → ℕ → ℕ
kept_of p shift = (length p.whole.now + shift + p.raised) - p.lowered

-- ---- numbers that are capped

-- the largest number that is answered and one more, which stands for each number above it
abbrev pub capped : ℕ → ℕ
capped n = min n (10 ^ 18 + 1)

-- Of the digits before and behind a point, so many weigh one or more, with so many zeros behind them.
pub record IsKept (kept : ℕ) (whole behind : List ℕ) (before after zeros : ℕ) : Type 0 where
  pub before-is : before ≡ min kept (length whole)
  pub after-is : after ≡ min (kept - length whole) (length behind)
  pub zeros-is : zeros ≡ kept - (length whole + length behind)
