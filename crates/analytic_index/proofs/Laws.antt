-- Laws that callers of this crate cite: what is exact of units whose rates are probabilities lies between the
-- written ends.
use Rattle.std.proofs.Common.{ℕ, ◌*◌, ◌^◌, ◌<◌, ◌≤◌, List, arith}
use Rattle.std.proofs.Math.Nat.{mul-le-mul_left, le_of_mul-le-mul_right}
use Rattle.fixed_interval.specs.Enclosure.{one}
use Rattle.fixed_interval.specs.Rounding.{floor_div, ceil_div}
use Rattle.fixed_interval.proofs.Rounds.{floor_div-below, ceil_div-above}
use Rattle.outage_table.specs.declared.units.PooledUnit.{PooledUnit}
use Rattle.outage_table.proofs.StateLaws.{AreRated, all_weight-pos}
use Rattle.outage_table.proofs.GridLaws.{grid_ends}
use Rattle.outage_table.proofs.UnservedLaws.{unserved-below, unserved-above}
use Rattle.analytic_index.specs.Pool.{Pool}
use Rattle.analytic_index.specs.Index.{needs_of}
use Rattle.analytic_index.specs.Enclosed.{LiesBetween, IsNeedEnclosed, AreIndicesEnclosed, AreOutagesEnclosed}
use Rattle.analytic_index.proofs.IndexLaws.{lolp-below, lolp-above, lole_end-below, lole_end-above, eue_end-below, eue_end-above}

-- an end in units of `1 / u` that is rounded outward to units of `1 / v` bounds the fraction too
rounded-below : (u v low part whole : ℕ) → 0 < u → low * whole ≤ part * u → floor_div (low * v) u * whole ≤ part * v
rounded-below u v low part whole some below =
    let rounded : whole * (floor_div (low * v) u * u) ≤ whole * (low * v) = mul-le-mul_left whole (floor_div-below (low * v) u) in
    let bound : v * (low * whole) ≤ v * (part * u) = mul-le-mul_left v below in
    let times : (floor_div (low * v) u * whole) * u ≤ (part * v) * u = omega arith in
    le_of_mul-le-mul_right times some

rounded-above : (u v high part whole : ℕ) → 0 < u → part * u ≤ high * whole → part * v ≤ ceil_div (high * v) u * whole
rounded-above u v high part whole some above =
    let rounded : whole * (high * v) ≤ whole * (ceil_div (high * v) u * u) = mul-le-mul_left whole (ceil_div-above (high * v) u some) in
    let bound : v * (part * u) ≤ v * (high * whole) = mul-le-mul_left v above in
    let times : (part * v) * u ≤ (ceil_div (high * v) u * whole) * u = omega arith in
    le_of_mul-le-mul_right times some

lies_between : (low high part whole : ℕ) → 0 < whole → low * whole ≤ part * one → part * one ≤ high * whole
    → LiesBetween low high part whole
lies_between low high part whole possible below above = record {
  possible = possible;
  below = below;
  above = above;
  printed_below = rounded-below one (10 ^ 12) low part whole (omega arith) below;
  printed_above = rounded-above one (10 ^ 12) high part whole (omega arith) above;
}

need_enclosed : (units : List PooledUnit) (need : ℕ) → AreRated units → IsNeedEnclosed units need
need_enclosed units need rated = record {
  lolp = lies_between _ _ _ _ (all_weight-pos units rated) (lolp-below units need rated) (lolp-above units need rated);
  unserved = lies_between _ _ _ _ (all_weight-pos units rated) (unserved-below units rated need) (unserved-above units rated need);
}

-- the indices of a pool
pub law_indices_enclosed : (pool : Pool) → AreRated pool.units → AreIndicesEnclosed pool
law_indices_enclosed pool rated = record {
  lole = lies_between _ _ _ _ (all_weight-pos pool.units rated)
      (lole_end-below pool.units (needs_of pool.hours) rated) (lole_end-above pool.units (needs_of pool.hours) rated);
  eue = lies_between _ _ _ _ (all_weight-pos pool.units rated)
      (eue_end-below pool.units (needs_of pool.hours) rated) (eue_end-above pool.units (needs_of pool.hours) rated);
  hourly = λ hour among. need_enclosed pool.units _ rated;
}

-- the probabilities of outages
pub law_outages_enclosed : (units : List PooledUnit) → AreRated units → AreOutagesEnclosed units
law_outages_enclosed units rated = record {
  outages = λ x within.
      lies_between _ _ _ _ (all_weight-pos units rated) ((grid_ends units rated).below x) ((grid_ends units rated).above x);
}
