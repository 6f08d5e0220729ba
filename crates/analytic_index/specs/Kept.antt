-- What an analysis keeps, besides the table and the loads.
use Rattle.std.specs.Prelude.{◌≡◌, ℕ, ◌+◌, ◌<◌, ◌≤◌, List, length, slice_index_or, All}
use Rattle.ra_base.specs.declared.limits.TheConstants.{MOST_TABLE_MW}
use Rattle.fixed_interval.specs.declared.enclosure.Enclosure.{Enclosure}
use Rattle.fixed_interval.specs.Rounding.{floor_div, ceil_div}
use Rattle.system_model.specs.Rates.{AreRates}
use Rattle.outage_table.specs.declared.units.PooledUnit.{PooledUnit}
use Rattle.outage_table.specs.States.{total_capacity}
use Rattle.outage_table.specs.Grid.{unserved_grid}

-- the first of what is unserved under a need of 0 MW, 1 MW and so on
pub record AreUnserved (unserved : List Enclosure) (units : List PooledUnit) (n : ℕ) : Type 0 where
  pub count : length unserved ≡ n
  pub low : (k : ℕ) (d : Enclosure) → k < n → (slice_index_or unserved k d).low ≡ unserved_grid floor_div units k
  pub high : (k : ℕ) (d : Enclosure) → k < n → (slice_index_or unserved k d).high ≡ unserved_grid ceil_div units k

-- what is unserved under each need up to the whole capacity
pub record IsKept (unserved : List Enclosure) (units : List PooledUnit) : Type 0 where
  pub rated : All (λ unit. AreRates unit.rates) units
  pub small : total_capacity units ≤ MOST_TABLE_MW
  pub sums : AreUnserved unserved units (total_capacity units + 1)
