-- What is answered to a field: a value, or the first fault in their order.
use Rattle.std.specs.Prelude.{◌≡◌, ℕ, ◌+◌, ◌^◌, ◌<◌, ◌≤◌, ◌≢◌, ◌⊎◌, List, [], ◌++◌, length, take, slice_index, Result, Ok, Err, if◌then◌else◌, nat_lt}
use Rattle.decimal_text.specs.declared.fault.NumberFault.{NumberFault}
use Rattle.decimal_text.specs.declared.fault.NumberFault.TheVariants.{Empty, NotANumber, NotWhole, TooLarge}
use Rattle.decimal_text.specs.Numeral.{Numeral, Spells, digits_of, raised, lowered, IsWorth, IsWhole, IsBillionths}

-- a field has 1 to 40 bytes
pub record HasLength (field : List ℕ) : Type 0 where
  pub some : 0 < length field
  pub few : length field ≤ 40

-- some numeral begins with these bytes
abbrev pub Begins : List ℕ → Type 0
Begins front = (more : List ℕ) × (n : Numeral) × Spells n (front ++ more)

-- the length of the longest prefix of the field that is a prefix of some numeral
pub record IsLongestBegin (field : List ℕ) (at : ℕ) : Type 0 where
  pub within : at ≤ length field
  pub begins : Begins (take at field)
  pub longest : (k : ℕ) → k ≤ length field → Begins (take k field) → k ≤ at

-- The weight of digit i, from 0, is ten to (digits before the point + exponent - 1 - i).
abbrev pub IsBelowOne : Numeral → ℕ → Type 0
IsBelowOne n i = length n.whole + raised n.exponent ≤ i + lowered n.exponent

-- where digit i stands in the spelling: the point stands before the digits behind it
abbrev pub place_of : Numeral → ℕ → ℕ
place_of n i = if nat_lt i (length n.whole) then i else i + 1

-- at is the place of the first digit other than 0 (48) whose weight is below one
pub record IsFirstBelowOne (n : Numeral) (i at : ℕ) : Type 0 where
  pub within : i < length (digits_of n)
  pub below_one : IsBelowOne n i
  pub not_zero : slice_index (digits_of n) i ≢ 48
  pub first : (k : ℕ) → k < i → IsBelowOne n k → slice_index (digits_of n) k ≡ 48
  pub place : at ≡ place_of n i

-- the field is short enough and spells no numeral
pub record IsNoNumber (field : List ℕ) (at : ℕ) : Type 0 where
  pub length : HasLength field
  pub none : (n : Numeral) → Spells n field → ⊥
  pub place : IsLongestBegin field at

-- the field is short enough and spells this numeral
pub record IsNumber (field : List ℕ) (n : Numeral) : Type 0 where
  pub length : HasLength field
  pub spells : Spells n field

-- what `read_whole` answers
abbrev pub IsWholeAnswer : List ℕ → Result ℕ NumberFault → Type 0
IsWholeAnswer field (Ok v) = (n : Numeral) × IsNumber field n × IsWorth n v × (v ≤ 10 ^ 18)
IsWholeAnswer field (Err Empty) = field ≡ []
IsWholeAnswer field (Err (NotANumber at)) = IsNoNumber field at
IsWholeAnswer field (Err (NotWhole at)) = (n : Numeral) × IsNumber field n × (IsWhole n → ⊥) × (i : ℕ) × IsFirstBelowOne n i at
IsWholeAnswer field (Err TooLarge) = (40 < length field) ⊎ ((n : Numeral) × IsNumber field n × (v : ℕ) × IsWorth n v × (10 ^ 18 < v))

-- what `read_billionths` answers
abbrev pub IsBillionthsAnswer : List ℕ → Result ℕ NumberFault → Type 0
IsBillionthsAnswer field (Ok v) = (n : Numeral) × IsNumber field n × IsBillionths n v × (v ≤ 10 ^ 18)
IsBillionthsAnswer field (Err Empty) = field ≡ []
IsBillionthsAnswer field (Err (NotANumber at)) = IsNoNumber field at
IsBillionthsAnswer field (Err (NotWhole at)) = ⊥
IsBillionthsAnswer field (Err TooLarge) = (40 < length field) ⊎ ((n : Numeral) × IsNumber field n × (v : ℕ) × IsBillionths n v × (10 ^ 18 < v))
