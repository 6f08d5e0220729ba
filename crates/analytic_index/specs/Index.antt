-- The two indices over a list of needs in MW, one for each hour: what they are, and the ends that are written.
use Rattle.std.specs.Prelude.{◌≡◌, ℕ, ◌+◌, ◌-◌, ◌*◌, ◌≤◌, List, length, map, sum, sum_by}
use Rattle.fixed_interval.specs.Enclosure.{Encloses}
use Rattle.fixed_interval.specs.Rounding.{floor_div, ceil_div}
use Rattle.load_model.specs.declared.hours.NetHour.{NetHour}
use Rattle.load_model.specs.Need.{need_of, shifted_need_of}
use Rattle.outage_table.specs.declared.units.PooledUnit.{PooledUnit}
use Rattle.outage_table.specs.States.{total_capacity, all_weight, short_weight, lack_weight}
use Rattle.outage_table.specs.Grid.{grid, unserved_grid}
use Rattle.analytic_index.specs.declared.indices.Index.{Index}

-- what the hours need
abbrev pub needs_of : List NetHour → List ℕ
needs_of hours = map need_of hours

-- what they need under `more` MW of further load and `less` MW of further supply
abbrev pub shifted_needs : ℕ → ℕ → List NetHour → List ℕ
shifted_needs less more hours = map (shifted_need_of less more) hours

-- The exact indices, over the weight of all states: in each hour the weight of the states in which less is in
-- service than is needed, and what is lacking in each state times its weight.
abbrev pub lole_weight : List PooledUnit → List ℕ → ℕ
lole_weight units needs = sum_by (λ need. short_weight units 0 need) needs

abbrev pub eue_weight : List PooledUnit → List ℕ → ℕ
eue_weight units needs = sum_by (λ need. lack_weight units 0 need) needs

-- the end that is written for the probability that less is in service than is needed
abbrev pub lolp_end : (ℕ → ℕ → ℕ) → List PooledUnit → ℕ → ℕ
lolp_end round units need = grid round units (total_capacity units + 1 - need)

-- the ends that are written for the indices
abbrev pub lole_end : (ℕ → ℕ → ℕ) → List PooledUnit → List ℕ → ℕ
lole_end round units needs = sum_by (λ need. lolp_end round units need) needs

abbrev pub eue_end : (ℕ → ℕ → ℕ) → List PooledUnit → List ℕ → ℕ
eue_end round units needs = sum_by (λ need. unserved_grid round units need) needs

-- the index has the ends that are written for these units and needs
pub record IsIndex (index : Index) (units : List PooledUnit) (needs : List ℕ) : Type 0 where
  pub lole_low : index.lole.low ≡ lole_end floor_div units needs
  pub lole_high : index.lole.high ≡ lole_end ceil_div units needs
  pub eue_low : index.eue.low ≡ eue_end floor_div units needs
  pub eue_high : index.eue.high ≡ eue_end ceil_div units needs

-- the exact indices lie in it
pub record EnclosesIndex (index : Index) (units : List PooledUnit) (needs : List ℕ) : Type 0 where
  pub lole : Encloses index.lole (lole_weight units needs) (all_weight units)
  pub eue : Encloses index.eue (eue_weight units needs) (all_weight units)

-- its ends are not far apart, in units of 2^-60
pub record IsNarrow (index : Index) (units : List PooledUnit) (needs : List ℕ) : Type 0 where
  pub lole : index.lole.high ≤ index.lole.low + 2 * length units * length needs
  pub eue : index.eue.high ≤ index.eue.low + 2 * length units * sum needs

-- none of the ends that are written for these needs is above the index
pub record AreEndsWithin (units : List PooledUnit) (needs : List ℕ) (index : Index) : Type 0 where
  pub lole_low : lole_end floor_div units needs ≤ index.lole.low
  pub lole_high : lole_end ceil_div units needs ≤ index.lole.high
  pub eue_low : eue_end floor_div units needs ≤ index.eue.low
  pub eue_high : eue_end ceil_div units needs ≤ index.eue.high
