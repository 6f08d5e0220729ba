use Rattle.std.specs.Prelude.{ℕ, zero, suc, ◌+◌, ◌-◌, ◌*◌, List, fold}
use Rattle.fixed_interval.specs.Enclosure.{one}
use Rattle.system_model.specs.Rates.{out_weight, up_weight}
use Rattle.outage_table.specs.declared.units.PooledUnit.{PooledUnit}
use Rattle.outage_table.specs.States.{total_capacity}

-- Entries are ends in units of 2^-60, by MW of outage. `round` is the rounding of a quotient: `floor_div`
-- gives the low ends and `ceil_div` the high ends.

-- without units an outage of 0 MW or more is certain, and every other impossible
abbrev pub no_units : ℕ → ℕ
no_units zero = one
no_units (suc x) = 0

-- One more unit. At and below its capacity the entry of the units before it is the one at 0 MW, which is 1.
abbrev pub with_unit : (ℕ → ℕ → ℕ) → (ℕ → ℕ) → PooledUnit → ℕ → ℕ
with_unit round entry unit x =
    round (up_weight unit.rates * entry x + out_weight unit.rates * entry (x - unit.capacity)) (out_weight unit.rates + up_weight unit.rates)

-- the end that is written for an outage of `x` MW or more, one unit being added after the other
abbrev pub grid : (ℕ → ℕ → ℕ) → List PooledUnit → ℕ → ℕ
grid round units = fold (with_unit round) no_units units

-- The end that is written for the unserved MW under a need. It is the sum, over the MW below the need, of the
-- ends for at most so much capacity in service.
abbrev pub unserved_grid : (ℕ → ℕ → ℕ) → List PooledUnit → ℕ → ℕ
unserved_grid round units zero = 0
unserved_grid round units (suc most) =
    unserved_grid round units most + grid round units (total_capacity units - most)
