-- What is written as unserved: it encloses what is lacking, and its ends are not far apart.
use Rattle.std.proofs.Common.{◌≡◌, ℕ, zero, suc, ◌+◌, ◌-◌, ◌*◌, ◌≤◌, List, length, refl, inl, inr, arith, add-one}
use Rattle.std.proofs.lemmas.Bool.{cases_lt}
use Rattle.fixed_interval.specs.Enclosure.{one}
use Rattle.fixed_interval.specs.Rounding.{floor_div, ceil_div}
use Rattle.outage_table.specs.declared.units.PooledUnit.{PooledUnit}
use Rattle.outage_table.specs.States.{total_capacity, all_weight, outage_weight, lack_weight}
use Rattle.outage_table.specs.Grid.{grid, unserved_grid}
use Rattle.outage_table.proofs.StateLaws.{AreRated}
use Rattle.outage_table.proofs.GridLaws.{grid_ends}
use Rattle.outage_table.proofs.LackLaws.{outages_below, lack_weight-outages}

pub unserved_grid-more : (round : ℕ → ℕ → ℕ) (units : List PooledUnit) (most : ℕ)
    → unserved_grid round units (most + 1) ≡ unserved_grid round units most + grid round units (total_capacity units - most)
unserved_grid-more round units most = rw (add-one most) refl

sum_bounded : (u A s g b w : ℕ) → s * A ≤ b * u → g * A ≤ w * u → (s + g) * A ≤ (b + w) * u
sum_bounded u A s g b w h k = omega arith

sum_bounding : (u A s g b w : ℕ) → b * u ≤ s * A → w * u ≤ g * A → (b + w) * u ≤ (s + g) * A
sum_bounding u A s g b w h k = omega arith

nothing_besides : (total most : ℕ) → total + 0 - most ≡ total - most
nothing_besides total most = omega arith

sum_below : (units : List PooledUnit) → AreRated units → (need : ℕ)
    → unserved_grid floor_div units need * all_weight units ≤ outages_below units 0 need * one
sum_below units rated zero = omega arith
sum_below units rated (suc most) =
    rw (nothing_besides (total_capacity units) most)
    (sum_bounded one (all_weight units) (unserved_grid floor_div units most) (grid floor_div units (total_capacity units - most))
    (outages_below units 0 most) (outage_weight units 0 (total_capacity units - most))
    (sum_below units rated most) ((grid_ends units rated).below (total_capacity units - most)))

sum_above : (units : List PooledUnit) → AreRated units → (need : ℕ)
    → outages_below units 0 need * one ≤ unserved_grid ceil_div units need * all_weight units
sum_above units rated zero = omega arith
sum_above units rated (suc most) =
    rw (nothing_besides (total_capacity units) most)
    (sum_bounding one (all_weight units) (unserved_grid ceil_div units most) (grid ceil_div units (total_capacity units - most))
    (outages_below units 0 most) (outage_weight units 0 (total_capacity units - most))
    (sum_above units rated most) ((grid_ends units rated).above (total_capacity units - most)))

pub unserved-below : (units : List PooledUnit) → AreRated units → (need : ℕ)
    → unserved_grid floor_div units need * all_weight units ≤ lack_weight units 0 need * one
unserved-below units rated need = rw (lack_weight-outages units 0 need) (sum_below units rated need)

pub unserved-above : (units : List PooledUnit) → AreRated units → (need : ℕ)
    → lack_weight units 0 need * one ≤ unserved_grid ceil_div units need * all_weight units
unserved-above units rated need = rw (lack_weight-outages units 0 need) (sum_above units rated need)

width_more : (a b c d n k : ℕ) → a ≤ b + n * k → c ≤ d + n → a + c ≤ (b + d) + n * suc k
width_more a b c d n k h j = omega arith

pub unserved-width : (units : List PooledUnit) → AreRated units → (need : ℕ)
    → unserved_grid ceil_div units need ≤ unserved_grid floor_div units need + 2 * length units * need
unserved-width units rated zero = omega arith
unserved-width units rated (suc most) =
    width_more (unserved_grid ceil_div units most) (unserved_grid floor_div units most)
    (grid ceil_div units (total_capacity units - most)) (grid floor_div units (total_capacity units - most))
    (2 * length units) most (unserved-width units rated most) ((grid_ends units rated).width (total_capacity units - most))

-- under a larger need no less is unserved
pub unserved_grid-rises : (round : ℕ → ℕ → ℕ) (units : List PooledUnit) (need more : ℕ) → need ≤ more
    → unserved_grid round units need ≤ unserved_grid round units more
unserved_grid-rises round units need zero h =
    let none : need ≡ 0 = omega arith in rw none (omega arith)
unserved_grid-rises round units need (suc most) h = elim (cases_lt need (suc most)) [
  | inl near ↦ (let before = unserved_grid-rises round units need most (omega arith) in omega arith)
  | inr far ↦ (let same : need ≡ suc most = omega arith in rw same (omega arith))
]
