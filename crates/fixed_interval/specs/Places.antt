use Rattle.std.specs.Prelude.{ℕ, zero, suc, ◌+◌, ◌*◌, ◌/◌, ◌%◌, ◌^◌, List, [], ◌∷◌, ◌++◌, decimal}
use Rattle.fixed_interval.specs.declared.enclosure.Enclosure.{Enclosure}
use Rattle.fixed_interval.specs.Enclosure.{one}
use Rattle.fixed_interval.specs.Rounding.{floor_div, ceil_div}

-- the last digits of a value, so many of them, leading zeros too
abbrev pub last_digits : ℕ → ℕ → List ℕ
last_digits zero value = []
last_digits (suc more) value = (48 + ((value / (10 ^ more)) % 10)) ∷ last_digits more value

-- a value in units of 10^-12, with 12 places after the point
unfoldable pub places_text : ℕ → List ℕ
places_text value = decimal (value / (10 ^ 12)) ++ (46 ∷ last_digits 12 (value % (10 ^ 12)))

-- a low end with 12 places, rounded down
unfoldable pub low_end_text : ℕ → List ℕ
low_end_text low = places_text (floor_div (low * (10 ^ 12)) one)

-- a high end with 12 places, rounded up
unfoldable pub high_end_text : ℕ → List ℕ
high_end_text high = places_text (ceil_div (high * (10 ^ 12)) one)

-- the ends of an enclosure with 12 places
abbrev pub low_text : Enclosure → List ℕ
low_text e = low_end_text e.low

abbrev pub high_text : Enclosure → List ℕ
high_text e = high_end_text e.high
