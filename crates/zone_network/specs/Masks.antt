-- a mask that holds one number more
use Rattle.std.specs.Prelude.{◌≡◌, ◌≢◌, ℕ, ◌<◌, ◌≤◌, ◌^◌, IsTrue, false}
use Rattle.zone_network.specs.Sums.{inside}

-- the second mask holds one number more than the first, where that number wasn't there
pub record AddsNumber (before number after : ℕ) : Type 0 where
  pub itself : IsTrue (inside after number)
  pub others : (i : ℕ) → i ≢ number → inside after i ≡ inside before i
  pub above : before ≤ after
  pub more : inside before number ≡ false → before < after
  pub among : (count : ℕ) → before < 2 ^ count → number < count → after < 2 ^ count
