use Rattle.std.specs.Prelude.{ℕ, ◌*◌, ◌^◌, ◌≤◌}
use Rattle.fixed_interval.specs.declared.enclosure.Enclosure.{Enclosure}

-- 1, in units of 2^-60
abbrev pub one : ℕ
one = 2 ^ 60

-- the fraction `part / whole` lies between the two ends
pub record Encloses (e : Enclosure) (part whole : ℕ) : Type 0 where
  pub below : e.low * whole ≤ part * one
  pub above : part * one ≤ e.high * whole
