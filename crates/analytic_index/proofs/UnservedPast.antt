-- What is unserved under a need past the whole capacity, and a bound of what is unserved.
use Rattle.std.proofs.Common.{◌≡◌, ℕ, zero, suc, ◌+◌, ◌-◌, ◌*◌, ◌<◌, ◌≤◌, List, get_or, ap, ◌∙◌, arith}
use Rattle.fixed_interval.specs.declared.enclosure.Enclosure.{Enclosure}
use Rattle.fixed_interval.specs.Enclosure.{one}
use Rattle.fixed_interval.specs.Rounding.{floor_div, ceil_div}
use Rattle.outage_table.specs.declared.units.PooledUnit.{PooledUnit}
use Rattle.outage_table.specs.States.{total_capacity}
use Rattle.outage_table.specs.Grid.{grid, unserved_grid}
use Rattle.outage_table.proofs.StateLaws.{AreRated}
use Rattle.outage_table.proofs.GridLaws.{grid_ends, part-high}
use Rattle.outage_table.proofs.UnservedLaws.{unserved_grid-more}
use Rattle.analytic_index.specs.Kept.{IsKept}

pub unserved-bound : (units : List PooledUnit) (need : ℕ) → AreRated units → unserved_grid ceil_div units need ≤ need * one
unserved-bound units zero rated = omega arith
unserved-bound units (suc most) rated =
    let before = unserved-bound units most rated in
    let part = part-high units (total_capacity units - most) rated in
    omega arith

past_by : (round : ℕ → ℕ → ℕ) (units : List PooledUnit) (more : ℕ) → grid round units 0 ≡ one
    → unserved_grid round units (total_capacity units + more) ≡ unserved_grid round units (total_capacity units) + more * one
past_by round units zero certain =
    let same : total_capacity units + 0 ≡ total_capacity units = omega arith in
    rw same (omega arith)
past_by round units (suc more) certain =
    let longer : total_capacity units + suc more ≡ (total_capacity units + more) + 1 = omega arith in
    let none : total_capacity units - (total_capacity units + more) ≡ 0 = omega arith in
    let before = past_by round units more certain in
    let step : unserved_grid round units ((total_capacity units + more) + 1) ≡ unserved_grid round units (total_capacity units + more) + one
    = unserved_grid-more round units (total_capacity units + more)
    ∙ ap (λ n. unserved_grid round units (total_capacity units + more) + n) (ap (grid round units) none ∙ certain) in
    rw longer (omega arith)

past : (round : ℕ → ℕ → ℕ) (units : List PooledUnit) (need : ℕ) → total_capacity units ≤ need → grid round units 0 ≡ one
    → unserved_grid round units (total_capacity units) + one * (need - total_capacity units) ≡ unserved_grid round units need
past round units need h certain =
    let whole : total_capacity units + (need - total_capacity units) ≡ need = omega arith in
    let split = past_by round units (need - total_capacity units) certain in
    let e : unserved_grid round units (total_capacity units + (need - total_capacity units)) ≡ unserved_grid round units need = ap (unserved_grid round units) whole in
    omega arith

-- past the whole capacity each further MW is unserved
pub past-low : (units : List PooledUnit) (need : ℕ) → AreRated units → total_capacity units ≤ need
    → unserved_grid floor_div units (total_capacity units) + one * (need - total_capacity units) ≡ unserved_grid floor_div units need
past-low units need rated h = past floor_div units need h (grid_ends units rated).certain_low

pub past-high : (units : List PooledUnit) (need : ℕ) → AreRated units → total_capacity units ≤ need
    → unserved_grid ceil_div units (total_capacity units) + one * (need - total_capacity units) ≡ unserved_grid ceil_div units need
past-high units need rated h = past ceil_div units need h (grid_ends units rated).certain_high

-- what is read from the kept sums
pub kept_low : (unserved : List Enclosure) (units : List PooledUnit) (need : ℕ) (e : Enclosure) → IsKept unserved units
    → need < total_capacity units + 1 → e ≡ get_or unserved need e → e.low ≡ unserved_grid floor_div units need
kept_low unserved units need e kept h is = ap (λ x. x.low) is ∙ kept.sums.low need e h

pub kept_high : (unserved : List Enclosure) (units : List PooledUnit) (need : ℕ) (e : Enclosure) → IsKept unserved units
    → need < total_capacity units + 1 → e ≡ get_or unserved need e → e.high ≡ unserved_grid ceil_div units need
kept_high unserved units need e kept h is = ap (λ x. x.high) is ∙ kept.sums.high need e h
