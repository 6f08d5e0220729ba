-- The written ends of an index enclose the exact one, are not far apart, and rise with the needs.
use Rattle.std.proofs.Common.{◌≡◌, ℕ, ◌+◌, ◌-◌, ◌*◌, ◌≤◌, List, length, ap, ◌∙◌, arith, zero, suc}
use Rattle.std.proofs.lemmas.List.Sums.{sum_by-le-sum_by}
use Rattle.fixed_interval.specs.Enclosure.{one}
use Rattle.fixed_interval.specs.Rounding.{floor_div, ceil_div}
use Rattle.load_model.specs.declared.hours.NetHour.{NetHour}
use Rattle.load_model.specs.Need.{shifted_need_of}
use Rattle.outage_table.specs.declared.units.PooledUnit.{PooledUnit}
use Rattle.outage_table.specs.States.{total_capacity, all_weight, outage_weight, short_weight, lack_weight}
use Rattle.outage_table.specs.Grid.{unserved_grid}
use Rattle.outage_table.proofs.StateLaws.{AreRated}
use Rattle.outage_table.proofs.GridLaws.{grid_ends}
use Rattle.outage_table.proofs.LackLaws.{short_weight-outage}
use Rattle.outage_table.proofs.UnservedLaws.{unserved-below, unserved-above, unserved-width, unserved_grid-rises}
use Rattle.analytic_index.specs.declared.indices.Index.{Index}
use Rattle.analytic_index.specs.Index.{shifted_needs, lole_weight, eue_weight, lolp_end, lole_end, eue_end, IsIndex, EnclosesIndex, IsNarrow, AreEndsWithin}
use Rattle.analytic_index.proofs.SumLaws.{sums_scaled, sums_apart, sums_apart_by, sums_mapped-le}
use Rattle.analytic_index.proofs.NeedLaws.{shifted-le}

-- the states that are short of a need are those with more out than can be spared
short : (units : List PooledUnit) (need : ℕ) → short_weight units 0 need ≡ outage_weight units 0 (total_capacity units + 1 - need)
short units need =
    let same : total_capacity units + 0 + 1 - need ≡ total_capacity units + 1 - need = omega arith in
    short_weight-outage units 0 need ∙ ap (λ x. outage_weight units 0 x) same

pub lolp-below : (units : List PooledUnit) (need : ℕ) → AreRated units
    → lolp_end floor_div units need * all_weight units ≤ short_weight units 0 need * one
lolp-below units need rated =
    rw (short units need) ((grid_ends units rated).below (total_capacity units + 1 - need))

pub lolp-above : (units : List PooledUnit) (need : ℕ) → AreRated units
    → short_weight units 0 need * one ≤ lolp_end ceil_div units need * all_weight units
lolp-above units need rated =
    rw (short units need) ((grid_ends units rated).above (total_capacity units + 1 - need))

pub lole_end-below : (units : List PooledUnit) (needs : List ℕ) → AreRated units
    → lole_end floor_div units needs * all_weight units ≤ lole_weight units needs * one
lole_end-below units needs rated =
    sums_scaled (λ need. lolp_end floor_div units need) (λ need. short_weight units 0 need) (all_weight units) one needs (λ need. lolp-below units need rated)

pub lole_end-above : (units : List PooledUnit) (needs : List ℕ) → AreRated units
    → lole_weight units needs * one ≤ lole_end ceil_div units needs * all_weight units
lole_end-above units needs rated =
    sums_scaled (λ need. short_weight units 0 need) (λ need. lolp_end ceil_div units need) one (all_weight units) needs (λ need. lolp-above units need rated)

pub eue_end-below : (units : List PooledUnit) (needs : List ℕ) → AreRated units
    → eue_end floor_div units needs * all_weight units ≤ eue_weight units needs * one
eue_end-below units needs rated =
    sums_scaled (λ need. unserved_grid floor_div units need) (λ need. lack_weight units 0 need) (all_weight units) one needs (λ need. unserved-below units rated need)

pub eue_end-above : (units : List PooledUnit) (needs : List ℕ) → AreRated units
    → eue_weight units needs * one ≤ eue_end ceil_div units needs * all_weight units
eue_end-above units needs rated =
    sums_scaled (λ need. lack_weight units 0 need) (λ need. unserved_grid ceil_div units need) one (all_weight units) needs (λ need. unserved-above units rated need)

pub index_encloses : (index : Index) (units : List PooledUnit) (needs : List ℕ) → AreRated units → IsIndex index units needs
    → EnclosesIndex index units needs
index_encloses index units needs rated is = record {
  lole = record { below = rw is.lole_low (lole_end-below units needs rated); above = rw is.lole_high (lole_end-above units needs rated) };
  eue = record { below = rw is.eue_low (eue_end-below units needs rated); above = rw is.eue_high (eue_end-above units needs rated) };
}

pub index_narrow : (index : Index) (units : List PooledUnit) (needs : List ℕ) → AreRated units → IsIndex index units needs
    → IsNarrow index units needs
index_narrow index units needs rated is = record {
  lole = rw (is.lole_low, is.lole_high) (sums_apart (λ need. lolp_end ceil_div units need) (λ need. lolp_end floor_div units need) (2 * length units) needs (λ need. (grid_ends units rated).width (total_capacity units + 1 - need)));
  eue = rw (is.eue_low, is.eue_high) (sums_apart_by (λ need. unserved_grid ceil_div units need) (λ need. unserved_grid floor_div units need) (2 * length units) needs (λ need. unserved-width units rated need));
}

spared-le : (total need more : ℕ) → need ≤ more → total + 1 - more ≤ total + 1 - need
spared-le total need more h = omega arith

-- under more supply and less load no end is larger
pub lole_low-falls : (units : List PooledUnit) (hours : List NetHour) (less more l m : ℕ) → AreRated units → less ≤ l → m ≤ more
    → lole_end floor_div units (shifted_needs l m hours) ≤ lole_end floor_div units (shifted_needs less more hours)
lole_low-falls units hours less more l m rated h k =
    sums_mapped-le (λ need. lolp_end floor_div units need) (shifted_need_of l m) (shifted_need_of less more) hours
    (λ hour. (grid_ends units rated).falls_low _ _ (spared-le (total_capacity units) _ _ (shifted-le less more l m hour h k)))

pub lole_high-falls : (units : List PooledUnit) (hours : List NetHour) (less more l m : ℕ) → AreRated units → less ≤ l → m ≤ more
    → lole_end ceil_div units (shifted_needs l m hours) ≤ lole_end ceil_div units (shifted_needs less more hours)
lole_high-falls units hours less more l m rated h k =
    sums_mapped-le (λ need. lolp_end ceil_div units need) (shifted_need_of l m) (shifted_need_of less more) hours
    (λ hour. (grid_ends units rated).falls_high _ _ (spared-le (total_capacity units) _ _ (shifted-le less more l m hour h k)))

pub eue_end-falls : (round : ℕ → ℕ → ℕ) (units : List PooledUnit) (hours : List NetHour) (less more l m : ℕ) → less ≤ l → m ≤ more
    → eue_end round units (shifted_needs l m hours) ≤ eue_end round units (shifted_needs less more hours)
eue_end-falls round units hours less more l m h k =
    sums_mapped-le (λ need. unserved_grid round units need) (shifted_need_of l m) (shifted_need_of less more) hours
    (λ hour. unserved_grid-rises round units _ _ (shifted-le less more l m hour h k))

pub index_falls : (index : Index) (units : List PooledUnit) (hours : List NetHour) (less more l m : ℕ) → AreRated units
    → IsIndex index units (shifted_needs less more hours) → less ≤ l → m ≤ more
    → AreEndsWithin units (shifted_needs l m hours) index
index_falls index units hours less more l m rated is h k = record {
  lole_low = rw is.lole_low (lole_low-falls units hours less more l m rated h k);
  lole_high = rw is.lole_high (lole_high-falls units hours less more l m rated h k);
  eue_low = rw is.eue_low (eue_end-falls floor_div units hours less more l m h k);
  eue_high = rw is.eue_high (eue_end-falls ceil_div units hours less more l m h k);
}

-- a low end is not above the high end
unserved-ordered : (units : List PooledUnit) (need : ℕ) → AreRated units → unserved_grid floor_div units need ≤ unserved_grid ceil_div units need
unserved-ordered units zero rated = omega arith
unserved-ordered units (suc most) rated =
    let before = unserved-ordered units most rated in
    let here = (grid_ends units rated).ordered (total_capacity units - most) in
    omega arith

pub lole_end-ordered : (units : List PooledUnit) (needs : List ℕ) → AreRated units → lole_end floor_div units needs ≤ lole_end ceil_div units needs
lole_end-ordered units needs rated =
    sum_by-le-sum_by (λ need. lolp_end floor_div units need) (λ need. lolp_end ceil_div units need) needs
    (λ need. (grid_ends units rated).ordered (total_capacity units + 1 - need))

pub eue_end-ordered : (units : List PooledUnit) (needs : List ℕ) → AreRated units → eue_end floor_div units needs ≤ eue_end ceil_div units needs
eue_end-ordered units needs rated =
    sum_by-le-sum_by (λ need. unserved_grid floor_div units need) (λ need. unserved_grid ceil_div units need) needs
    (λ need. unserved-ordered units need rated)
