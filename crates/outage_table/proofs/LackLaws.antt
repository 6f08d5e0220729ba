-- What is short of a need, and what is lacking for it, in terms of outages: at most `k` MW are in service
-- where at least all but `k` MW are out.
use Rattle.std.proofs.Common.{◌≡◌, ℕ, zero, suc, ◌+◌, ◌-◌, ◌*◌, List, [], ◌∷◌, sym, ap, ◌∙◌, arith}
use Rattle.std.proofs.lemmas.Bool.Decides.{nat_tests}
use Rattle.std.proofs.lemmas.List.Sums.{sum_by-cons}
use Rattle.system_model.specs.Rates.{out_weight, up_weight}
use Rattle.outage_table.specs.declared.units.PooledUnit.{PooledUnit}
use Rattle.outage_table.specs.States.{total_capacity, outage_weight, short_weight, lack_weight}
use Rattle.outage_table.proofs.StateLaws.{outage_weight-shift}

-- the sum over the MW below the need of the weights of the states with at most so much in service, `up` MW of it besides the units
abbrev pub outages_below : List PooledUnit → ℕ → ℕ → ℕ
outages_below units up zero = 0
outages_below units up (suc most) = outages_below units up most + outage_weight units 0 (total_capacity units + up - most)

total_capacity-cons : (v : PooledUnit) (units : List PooledUnit) → total_capacity (v ∷ units) ≡ v.capacity + total_capacity units
total_capacity-cons v units = sum_by-cons (λ unit. unit.capacity) v units

-- one more unit before the others, at an outage that leaves a given need
outage_weight-cons : (v : PooledUnit) (units : List PooledUnit) (up less : ℕ)
    → outage_weight (v ∷ units) 0 (total_capacity (v ∷ units) + up - less)
    ≡ up_weight v.rates * outage_weight units 0 (total_capacity units + (up + v.capacity) - less)
    + out_weight v.rates * outage_weight units 0 (total_capacity units + up - less)
outage_weight-cons v units up less =
    let all : total_capacity (v ∷ units) + up - less ≡ total_capacity units + (up + v.capacity) - less
    = omega (arith, total_capacity-cons v units) in
    let rest : (total_capacity (v ∷ units) + up - less) - v.capacity ≡ total_capacity units + up - less
    = omega (arith, total_capacity-cons v units) in
    ap (λ n. up_weight v.rates * outage_weight units 0 n + out_weight v.rates * outage_weight units (0 + v.capacity) (total_capacity (v ∷ units) + up - less)) all
    ∙ ap (λ n. up_weight v.rates * outage_weight units 0 (total_capacity units + (up + v.capacity) - less) + out_weight v.rates * n)
    (outage_weight-shift units 0 v.capacity (total_capacity (v ∷ units) + up - less) ∙ ap (λ n. outage_weight units 0 n) rest)

outage_weight-cons-short : (v : PooledUnit) (units : List PooledUnit) (up need : ℕ)
    → outage_weight (v ∷ units) 0 (total_capacity (v ∷ units) + up + 1 - need)
    ≡ up_weight v.rates * outage_weight units 0 (total_capacity units + (up + v.capacity) + 1 - need)
    + out_weight v.rates * outage_weight units 0 (total_capacity units + up + 1 - need)
outage_weight-cons-short v units up need =
    let all : total_capacity (v ∷ units) + up + 1 - need ≡ total_capacity (v ∷ units) + (up + 1) - need = omega arith in
    let with : total_capacity units + ((up + 1) + v.capacity) - need ≡ total_capacity units + (up + v.capacity) + 1 - need = omega arith in
    let without : total_capacity units + (up + 1) - need ≡ total_capacity units + up + 1 - need = omega arith in
    ap (λ n. outage_weight (v ∷ units) 0 n) all
    ∙ outage_weight-cons v units (up + 1) need
    ∙ ap (λ n. up_weight v.rates * outage_weight units 0 n + out_weight v.rates * outage_weight units 0 (total_capacity units + (up + 1) - need)) with
    ∙ ap (λ n. up_weight v.rates * outage_weight units 0 (total_capacity units + (up + v.capacity) + 1 - need) + out_weight v.rates * outage_weight units 0 n) without

short_alone : (up need : ℕ) → short_weight [] up need ≡ outage_weight [] 0 (0 + up + 1 - need)
short_alone up need = grind (arith, nat_tests)

-- less than the need is in service where at least one MW more than what can be spared is out
pub short_weight-outage : (units : List PooledUnit) (up need : ℕ)
    → short_weight units up need ≡ outage_weight units 0 (total_capacity units + up + 1 - need)
short_weight-outage [] up need = short_alone up need
short_weight-outage (v ∷ units) up need =
    ap (λ n. up_weight v.rates * n + out_weight v.rates * short_weight units up need) (short_weight-outage units (up + v.capacity) need)
    ∙ ap (λ n. up_weight v.rates * outage_weight units 0 (total_capacity units + (up + v.capacity) + 1 - need) + out_weight v.rates * n) (short_weight-outage units up need)
    ∙ sym (outage_weight-cons-short v units up need)

sum_regrouped : (r f a b c d : ℕ) → r * (a + b) + f * (c + d) ≡ (r * a + f * c) + (r * b + f * d)
sum_regrouped r f a b c d = omega arith

outages_below-cons : (v : PooledUnit) (units : List PooledUnit) (up need : ℕ)
    → up_weight v.rates * outages_below units (up + v.capacity) need + out_weight v.rates * outages_below units up need
    ≡ outages_below (v ∷ units) up need
outages_below-cons v units up zero = omega arith
outages_below-cons v units up (suc most) =
    sum_regrouped (up_weight v.rates) (out_weight v.rates)
    (outages_below units (up + v.capacity) most) (outage_weight units 0 (total_capacity units + (up + v.capacity) - most))
    (outages_below units up most) (outage_weight units 0 (total_capacity units + up - most))
    ∙ ap (λ n. n + (up_weight v.rates * outage_weight units 0 (total_capacity units + (up + v.capacity) - most) + out_weight v.rates * outage_weight units 0 (total_capacity units + up - most)))
    (outages_below-cons v units up most)
    ∙ ap (λ n. outages_below (v ∷ units) up most + n) (sym (outage_weight-cons v units up most))

lack_one : (up most : ℕ) → suc most - up ≡ (most - up) + outage_weight [] 0 (0 + up - most)
lack_one up most = grind (arith, nat_tests)

lack_alone : (up need : ℕ) → lack_weight [] up need ≡ outages_below [] up need
lack_alone up zero = omega arith
lack_alone up (suc most) = lack_one up most ∙ ap (λ n. n + outage_weight [] 0 (0 + up - most)) (lack_alone up most)

-- what is lacking is the sum over the MW below the need
pub lack_weight-outages : (units : List PooledUnit) (up need : ℕ) → lack_weight units up need ≡ outages_below units up need
lack_weight-outages [] up need = lack_alone up need
lack_weight-outages (v ∷ units) up need =
    ap (λ n. up_weight v.rates * n + out_weight v.rates * lack_weight units up need) (lack_weight-outages units (up + v.capacity) need)
    ∙ ap (λ n. up_weight v.rates * outages_below units (up + v.capacity) need + out_weight v.rates * n) (lack_weight-outages units up need)
    ∙ outages_below-cons v units up need
