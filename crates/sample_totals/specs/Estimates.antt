-- Mean and standard error of a sum over samples, in thousandths.
use Rattle.std.specs.Prelude.{ℕ, zero, suc, ◌+◌, ◌-◌, ◌*◌, ◌/◌, ◌^◌, ◌<◌, ◌≤◌, ◌==◌, ◌&&◌, Bool, true, nat_le, Option, None, Some, if◌then◌else◌}
use Rattle.sample_totals.specs.declared.results.TheConstants.{MOST_UNSERVED}
use Rattle.sample_totals.specs.declared.estimates.Sums.{Sums}

-- the sums can be those of `samples` results: a value is at most what the longest run can leave unserved, and the
-- square of a sum of so many numbers is at most that many times the sum of their squares
pub record AreSums (sums : Sums) (samples : ℕ) : Type 0 where
  pub total : sums.total ≤ samples * MOST_UNSERVED
  pub squares : sums.squares ≤ samples * (MOST_UNSERVED * MOST_UNSERVED)
  pub spread : sums.total * sums.total ≤ samples * sums.squares

-- the sums of nothing
abbrev pub no_sums : Sums
no_sums = record { total = 0; squares = 0 }

-- the sums with one more value
abbrev pub with_value : Sums → ℕ → Sums
with_value sums value = record { total = sums.total + value; squares = sums.squares + value * value }

-- there is room for one more value in 128 bits
pub record FitsMore (sums : Sums) : Type 0 where
  pub total : sums.total ≤ 2 ^ 127
  pub squares : sums.squares ≤ 2 ^ 127

-- the sums of two lots of values together
abbrev pub joined_sums : Sums → Sums → Sums
joined_sums sums more = record { total = sums.total + more.total; squares = sums.squares + more.squares }

-- two sums have room for each other in 128 bits
pub record FitBoth (sums more : Sums) : Type 0 where
  pub total : sums.total + more.total < 2 ^ 128
  pub squares : sums.squares + more.squares < 2 ^ 128

-- the mean in thousandths, rounded down
abbrev pub mean_of : Sums → ℕ → ℕ
mean_of sums samples = 1000 * sums.total / samples

-- the greatest number up to `most` that passes a test, or 0 where none does
unfoldable pub greatest_up_to : ℕ → (ℕ → Bool) → ℕ
greatest_up_to zero test = 0
greatest_up_to (suc n) test = if test (suc n) then suc n else greatest_up_to n test

-- the square of the standard error is `spread_of` over `weight_of`, in thousandths of thousandths
abbrev pub spread_of : Sums → ℕ → ℕ
spread_of sums samples = 1000000 * (samples * sums.squares - sums.total * sums.total)

abbrev pub weight_of : ℕ → ℕ
weight_of samples = samples * samples * (samples - 1)

-- a number of thousandths isn't above the standard error
abbrev pub IsWithin : Sums → ℕ → ℕ → Type 0
IsWithin sums samples e = e * e * weight_of samples ≤ spread_of sums samples

-- the standard error in thousandths: the greatest number of thousandths that isn't above it. One
-- sample has none
unfoldable pub error_of : Sums → ℕ → Option ℕ
error_of sums samples =
    if samples == 1 then None
    else Some (greatest_up_to (spread_of sums samples) (λ e. nat_le (e * e * weight_of samples) (spread_of sums samples)))

-- the greatest number of thousandths that isn't above the standard error
pub record IsGreatestWithin (sums : Sums) (samples e : ℕ) : Type 0 where
  pub within : IsWithin sums samples e
  pub greatest : (g : ℕ) → IsWithin sums samples g → g ≤ e

-- whether so many samples are enough for a precision in thousandths: they are two or more, and the standard error
-- is at most that part of the mean, which is said in squares. Without a precision any number is enough
abbrev pub is_enough : Sums → ℕ → Option ℕ → Bool
is_enough sums samples None = true
is_enough sums samples (Some precision) =
    nat_le 2 samples && nat_le (spread_of sums samples) (precision * precision * (sums.total * sums.total) * (samples - 1))

-- a precision is from 1 to 1000 thousandths
abbrev pub IsPrecision : ℕ → Type 0
IsPrecision precision = (1 ≤ precision) × (precision ≤ 1000)
