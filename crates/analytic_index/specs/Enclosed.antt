-- What is exact of a pool lies between the ends that are written for it.
use Rattle.std.specs.Prelude.{ℕ, ◌*◌, ◌^◌, ◌<◌, ◌≤◌, List, length, slice_index_or}
use Rattle.fixed_interval.specs.Enclosure.{one}
use Rattle.fixed_interval.specs.Rounding.{floor_div, ceil_div}
use Rattle.load_model.specs.Need.{need_of, no_net_hour}
use Rattle.outage_table.specs.declared.units.PooledUnit.{PooledUnit}
use Rattle.outage_table.specs.States.{total_capacity, all_weight, outage_weight, short_weight, lack_weight}
use Rattle.outage_table.specs.Grid.{grid, unserved_grid}
use Rattle.analytic_index.specs.Pool.{Pool}
use Rattle.analytic_index.specs.Index.{needs_of, lole_weight, eue_weight, lolp_end, lole_end, eue_end}

-- the fraction `part / whole` lies between two ends in units of 2^-60, and between these as they are printed, the
-- low one rounded down and the high one rounded up to 12 places
pub record LiesBetween (low high part whole : ℕ) : Type 0 where
  pub possible : 0 < whole
  pub below : low * whole ≤ part * one
  pub above : part * one ≤ high * whole
  pub printed_below : floor_div (low * (10 ^ 12)) one * whole ≤ part * (10 ^ 12)
  pub printed_above : part * (10 ^ 12) ≤ ceil_div (high * (10 ^ 12)) one * whole

-- under a need: the probability that less is in service, and the expected MW that are unserved
pub record IsNeedEnclosed (units : List PooledUnit) (need : ℕ) : Type 0 where
  pub lolp : LiesBetween (lolp_end floor_div units need) (lolp_end ceil_div units need)
      (short_weight units 0 need) (all_weight units)
  pub unserved : LiesBetween (unserved_grid floor_div units need) (unserved_grid ceil_div units need)
      (lack_weight units 0 need) (all_weight units)

-- the indices over all hours, and those of each hour
pub record AreIndicesEnclosed (pool : Pool) : Type 0 where
  pub lole : LiesBetween (lole_end floor_div pool.units (needs_of pool.hours))
      (lole_end ceil_div pool.units (needs_of pool.hours))
      (lole_weight pool.units (needs_of pool.hours)) (all_weight pool.units)
  pub eue : LiesBetween (eue_end floor_div pool.units (needs_of pool.hours))
      (eue_end ceil_div pool.units (needs_of pool.hours))
      (eue_weight pool.units (needs_of pool.hours)) (all_weight pool.units)
  pub hourly : (hour : ℕ) → hour < length pool.hours
      → IsNeedEnclosed pool.units (need_of (slice_index_or pool.hours hour no_net_hour))

-- the probability of each outage of so many MW or more, up to the whole capacity
pub record AreOutagesEnclosed (units : List PooledUnit) : Type 0 where
  pub outages : (x : ℕ) → x ≤ total_capacity units
      → LiesBetween (grid floor_div units x) (grid ceil_div units x)
      (outage_weight units 0 x) (all_weight units)
