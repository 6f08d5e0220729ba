use Rattle.std.specs.Prelude.{ℕ, ◌+◌, ◌-◌, ◌*◌, nat_le, nat_lt, if◌then◌else◌, List, [], ◌∷◌, sum_by}
use Rattle.system_model.specs.Rates.{out_weight, up_weight}
use Rattle.outage_table.specs.declared.units.PooledUnit.{PooledUnit}

-- the capacity of all units
abbrev pub total_capacity : List PooledUnit → ℕ
total_capacity units = sum_by (λ unit. unit.capacity) units

-- the weight of all states of the units together
abbrev pub all_weight : List PooledUnit → ℕ
all_weight [] = 1
all_weight (unit ∷ rest) = (out_weight unit.rates + up_weight unit.rates) * all_weight rest

-- the weight of the states in which the capacity that is out, `out` MW besides these units, is at least `x`
abbrev pub outage_weight : List PooledUnit → ℕ → ℕ → ℕ
outage_weight [] out x = if nat_le x out then 1 else 0
outage_weight (unit ∷ rest) out x =
    up_weight unit.rates * outage_weight rest out x + out_weight unit.rates * outage_weight rest (out + unit.capacity) x

-- the weight of the states in which the capacity that is up, `up` MW besides these units, is below `need`
abbrev pub short_weight : List PooledUnit → ℕ → ℕ → ℕ
short_weight [] up need = if nat_lt up need then 1 else 0
short_weight (unit ∷ rest) up need =
    up_weight unit.rates * short_weight rest (up + unit.capacity) need + out_weight unit.rates * short_weight rest up need

-- what is lacking for `need` in each state, `up` MW being up besides these units, times the weight of the state
abbrev pub lack_weight : List PooledUnit → ℕ → ℕ → ℕ
lack_weight [] up need = need - up
lack_weight (unit ∷ rest) up need =
    up_weight unit.rates * lack_weight rest (up + unit.capacity) need + out_weight unit.rates * lack_weight rest up need
