-- The indices of one hour alone.
use Rattle.std.proofs.Common.{◌≡◌, ℕ, List, [], ◌∷◌, arith}
use Rattle.outage_table.specs.declared.units.PooledUnit.{PooledUnit}
use Rattle.outage_table.specs.Grid.{unserved_grid}
use Rattle.analytic_index.specs.Index.{lolp_end, lole_end, eue_end}

-- the indices over one hour alone
pub lole_of_one : (round : ℕ → ℕ → ℕ) (units : List PooledUnit) (need : ℕ)
    → lole_end round units (need ∷ []) ≡ lolp_end round units need
lole_of_one round units need = omega arith

pub eue_of_one : (round : ℕ → ℕ → ℕ) (units : List PooledUnit) (need : ℕ)
    → eue_end round units (need ∷ []) ≡ unserved_grid round units need
eue_of_one round units need = omega arith
