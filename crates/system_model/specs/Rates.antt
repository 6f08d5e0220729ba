-- The rates with which a component fails and is repaired.
use Rattle.std.specs.Prelude.{ℕ, ◌+◌, ◌<◌, ◌≤◌}
use Rattle.ra_base.specs.declared.limits.TheConstants.{BILLION}
use Rattle.system_model.specs.declared.components.Rates.{Rates}

-- both rates are probabilities in billionths, and not both are 0
pub record AreRates (rates : Rates) : Type 0 where
  pub failure : rates.f ≤ BILLION
  pub repair : rates.r ≤ BILLION
  pub some : 0 < rates.f + rates.r

-- the weight of the state out of service in the long run, against `up_weight`
abbrev pub out_weight : Rates → ℕ
out_weight rates = rates.f

-- the weight of the state in service in the long run, against `out_weight`
abbrev pub up_weight : Rates → ℕ
up_weight rates = rates.r
