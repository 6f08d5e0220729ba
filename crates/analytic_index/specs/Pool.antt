-- A system whose zones are pooled: its units and the net loads of its hours.
use Rattle.std.specs.Prelude.{◌≤◌, List, [], ◌∷◌, ◌++◌, map, Option, Some, None}
use Rattle.ra_base.specs.declared.limits.TheConstants.{MOST_POOLED_MW}
use Rattle.system_model.specs.declared.components.Unit.{Unit as UnitPart}
use Rattle.system_model.specs.Rates.{AreRates}
use Rattle.system_model.specs.System.{SystemParts}
use Rattle.load_model.specs.declared.hours.NetHour.{NetHour}
use Rattle.load_model.specs.Need.{net_hour_of}
use Rattle.outage_table.specs.declared.units.PooledUnit.{PooledUnit}
use Rattle.analytic_index.specs.declared.pool.NewUnit.{NewUnit}

-- the units in their order, and the net loads of the hours
pub record Pool : Type 0 where
  pub units : List PooledUnit
  pub hours : List NetHour

-- a unit in the pool, wherever it stands
abbrev pub pooled_unit : UnitPart → PooledUnit
pooled_unit unit = record { capacity = unit.capacity; rates = unit.rates }

-- a new unit in the pool, where there is one
abbrev pub extra_units : Option NewUnit → List PooledUnit
extra_units None = []
extra_units (Some unit) = record { capacity = unit.capacity; rates = unit.rates } ∷ []

-- a system's units, and the extra one behind them
abbrev pub pooled_units : SystemParts → Option NewUnit → List PooledUnit
pooled_units system extra = map pooled_unit system.units ++ extra_units extra

-- the pool of a system with an extra unit
abbrev pub pool_of : SystemParts → Option NewUnit → Pool
pool_of system extra =
    record { units = pooled_units system extra; hours = map net_hour_of system.hours }

-- a unit that may be put in
pub record IsNewUnit (unit : NewUnit) : Type 0 where
  pub capacity : unit.capacity ≤ MOST_POOLED_MW
  pub rates : AreRates unit.rates

-- the same of one that may be there
abbrev pub IsExtra : Option NewUnit → Type 0
IsExtra None = Unit {0}
IsExtra (Some unit) = IsNewUnit unit
