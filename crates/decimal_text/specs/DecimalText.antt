-- The decimal text of a number, whole or with a fixed number of digits behind the point.
use Rattle.std.specs.Prelude.{◌≡◌, ℕ, ◌-◌, ◌*◌, ◌/◌, ◌%◌, ◌^◌, List, ◌∷◌, ◌++◌, length, replicate, decimal}
use Rattle.decimal_text.specs.Numeral.{Numeral, Spells, behind_point, top, bottom, IsWorth}

-- the digits, without leading zeros
abbrev pub whole_text : ℕ → List ℕ
whole_text value = decimal value

-- the digits with zeros (48) in front, `places` of them in all where the number has no more
abbrev pub padded_text : ℕ → ℕ → List ℕ
padded_text value places = replicate (places - length (decimal value)) 48 ++ decimal value

-- value / 10 ^ places, with `places` digits behind the point (46)
unfoldable pub fixed_text : ℕ → ℕ → List ℕ
fixed_text value places = whole_text (value / 10 ^ places) ++ 46 ∷ padded_text (value % 10 ^ places) places

-- the text spells a numeral that is worth the value
abbrev pub IsNumeralOf : List ℕ → ℕ → Type 0
IsNumeralOf text value = (n : Numeral) × Spells n text × IsWorth n value

-- the text spells a numeral with so many digits behind the point that is worth value / 10 ^ places
abbrev pub IsFraction : List ℕ → ℕ → ℕ → Type 0
IsFraction text value places = (n : Numeral) × Spells n text × (length (behind_point n) ≡ places) × (value * bottom n ≡ 10 ^ places * top n)
