-- The weights of the states of units: one more unit at the end, and capacity that is out besides.
use Rattle.std.proofs.Common.{◌≡◌, ℕ, ◌+◌, ◌-◌, ◌*◌, ◌<◌, List, [], ◌∷◌, ◌++◌, All, refl, ap, ◌∙◌, arith}
use Rattle.std.proofs.lemmas.Bool.Decides.{nat_tests}
use Rattle.std.proofs.lemmas.List.Elements.{All-head, All-tail}
use Rattle.system_model.specs.Rates.{AreRates, out_weight, up_weight}
use Rattle.outage_table.specs.declared.units.PooledUnit.{PooledUnit}
use Rattle.outage_table.specs.States.{all_weight, outage_weight}

-- every unit's rates are probabilities and not both 0
abbrev pub AreRated : List PooledUnit → Type 0
AreRated units = All (λ unit. AreRates unit.rates) units

turned : (a b n : ℕ) → a * (b * n) ≡ b * (a * n)
turned a b n = omega arith

regrouped : (r f s g a b c d : ℕ)
    → r * (s * a + g * b) + f * (s * c + g * d) ≡ s * (r * a + f * c) + g * (r * b + f * d)
regrouped r f s g a b c d = omega arith

pub all_weight-push : (units : List PooledUnit) (u : PooledUnit)
    → all_weight (units ++ u ∷ []) ≡ (out_weight u.rates + up_weight u.rates) * all_weight units
all_weight-push [] u = refl
all_weight-push (v ∷ units) u =
    ap (λ n. (out_weight v.rates + up_weight v.rates) * n) (all_weight-push units u)
    ∙ turned (out_weight v.rates + up_weight v.rates) (out_weight u.rates + up_weight u.rates) (all_weight units)

pub outage_weight-push : (units : List PooledUnit) (u : PooledUnit) (out x : ℕ)
    → outage_weight (units ++ u ∷ []) out x
    ≡ up_weight u.rates * outage_weight units out x + out_weight u.rates * outage_weight units (out + u.capacity) x
outage_weight-push [] u out x = refl
outage_weight-push (v ∷ units) u out x =
    let here = outage_weight-push units u out x in
    let there = outage_weight-push units u (out + v.capacity) x in
    let order : (out + v.capacity) + u.capacity ≡ (out + u.capacity) + v.capacity = omega arith in
    ap (λ n. up_weight v.rates * n + out_weight v.rates * outage_weight (units ++ u ∷ []) (out + v.capacity) x) here
    ∙ ap (λ n. up_weight v.rates * (up_weight u.rates * outage_weight units out x + out_weight u.rates * outage_weight units (out + u.capacity) x) + out_weight v.rates * n) there
    ∙ ap (λ n. up_weight v.rates * (up_weight u.rates * outage_weight units out x + out_weight u.rates * outage_weight units (out + u.capacity) x) + out_weight v.rates * (up_weight u.rates * outage_weight units (out + v.capacity) x + out_weight u.rates * outage_weight units n x)) order
    ∙ regrouped (up_weight v.rates) (out_weight v.rates) (up_weight u.rates) (out_weight u.rates)
    (outage_weight units out x) (outage_weight units (out + u.capacity) x)
    (outage_weight units (out + v.capacity) x) (outage_weight units ((out + u.capacity) + v.capacity) x)

test_shift : (out c x : ℕ) → outage_weight [] (out + c) x ≡ outage_weight [] out (x - c)
test_shift out c x = grind (arith, nat_tests)

pub outage_weight-shift : (units : List PooledUnit) (out c x : ℕ)
    → outage_weight units (out + c) x ≡ outage_weight units out (x - c)
outage_weight-shift [] out c x = test_shift out c x
outage_weight-shift (v ∷ units) out c x =
    let here = outage_weight-shift units out c x in
    let there = outage_weight-shift units (out + v.capacity) c x in
    let order : (out + c) + v.capacity ≡ (out + v.capacity) + c = omega arith in
    ap (λ n. up_weight v.rates * outage_weight units (out + c) x + out_weight v.rates * outage_weight units n x) order
    ∙ ap (λ n. n + out_weight v.rates * outage_weight units ((out + v.capacity) + c) x) (ap (λ n. up_weight v.rates * n) here)
    ∙ ap (λ n. up_weight v.rates * outage_weight units out (x - c) + out_weight v.rates * n) there

one_product : (a b : ℕ) → 0 < a → 0 < b → 0 < a * b
one_product a b h k = grind arith

pub all_weight-pos : (units : List PooledUnit) → AreRated units → 0 < all_weight units
all_weight-pos [] rated = omega arith
all_weight-pos (v ∷ units) rated =
    one_product (out_weight v.rates + up_weight v.rates) (all_weight units)
    (All-head (λ unit. AreRates unit.rates) v units rated).some
    (all_weight-pos units (All-tail (λ unit. AreRates unit.rates) v units rated))
