-- The draws of an hour, among those of some hours that are held.
use Rattle.std.specs.Prelude.{◌≡◌, ℕ, ◌+◌, ◌*◌, ◌^◌, ◌<◌, List, length, slice_index}
use Rattle.sample_streams.specs.Draw.{Draws, draw}
use Rattle.sample_streams.specs.declared.hour_draws.TheConstants.{HOURS}

-- what a contract sees of the draws of an hour: the seed, the number of components, the sample and the hour
pub record DrawnHour : Type 0 where
  pub seed : ℕ
  pub components : ℕ
  pub sample : ℕ
  pub hour : ℕ

-- the words are the draws of the hours that are drawn at once, from the first on, one hour behind another, and the
-- stream stands behind them; not all of these hours have passed
pub record AreHeld (stream : Draws) (components : ℕ) (words : List ℕ) (first passed : ℕ) : Type 0 where
  pub among : passed < HOURS
  pub count : stream.components ≡ components
  pub place : stream.place ≡ (first + HOURS) * components
  pub size : length words ≡ HOURS * components
  pub each :
      (h k : ℕ)
      → h < HOURS
      → k < components
      → slice_index words (h * components + k) ≡ draw components stream.seed stream.sample (first + h) k
  pub small : (i : ℕ) → i < length words → slice_index words i < 2 ^ 32
