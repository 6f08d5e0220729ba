-- The entries that the rule writes: they start at 1, fall, are 0 past the whole capacity, enclose the
-- weight of the states with such an outage, and are at most twice the number of units apart.
use Rattle.std.proofs.Common.{◌≡◌, ℕ, zero, suc, ◌+◌, ◌-◌, ◌*◌, ◌<◌, ◌≤◌, List, [], ◌∷◌, ◌++◌, length, refl, sym, ap, subst, ◌∙◌, arith, length-append, fold}
use Rattle.std.proofs.lemmas.Bool.Decides.{nat_tests}
use Rattle.std.proofs.lemmas.List.{append-nil, append_assoc}
use Rattle.std.proofs.lemmas.List.Sums.{sum_by_push, fold_push}
use Rattle.std.proofs.lemmas.List.Elements.{All-head, All-tail}
use Rattle.fixed_interval.specs.Enclosure.{one}
use Rattle.fixed_interval.specs.Rounding.{floor_div, ceil_div}
use Rattle.fixed_interval.proofs.Rounds.{floor_div-below, ceil_div-above, floor_div-more, ceil_div-more}
use Rattle.system_model.specs.Rates.{AreRates, out_weight, up_weight}
use Rattle.outage_table.specs.declared.units.PooledUnit.{PooledUnit}
use Rattle.outage_table.specs.States.{total_capacity, all_weight, outage_weight}
use Rattle.outage_table.specs.Grid.{no_units, with_unit, grid}
use Rattle.outage_table.specs.Fleet.{moved}
use Rattle.outage_table.proofs.StateLaws.{AreRated, all_weight-push, outage_weight-push, outage_weight-shift}
use Rattle.outage_table.proofs.Ends.{mean-le, floor_div-le, ceil_div-le, floor-le-ceil, floor_div-same, ceil_div-same, mean_bounded_below, mean_bounded_above, mean_width}

-- these low and high ends are fit to be the entries of a table of these units
pub record AreEndsOf (low high : ℕ → ℕ) (units : List PooledUnit) : Type 0 where
  pub certain_low : low 0 ≡ one
  pub certain_high : high 0 ≡ one
  pub falls_low : (x y : ℕ) → x ≤ y → low y ≤ low x
  pub falls_high : (x y : ℕ) → x ≤ y → high y ≤ high x
  pub past_low : (x : ℕ) → total_capacity units < x → low x ≡ 0
  pub past_high : (x : ℕ) → total_capacity units < x → high x ≡ 0
  pub ordered : (x : ℕ) → low x ≤ high x
  pub below : (x : ℕ) → low x * all_weight units ≤ outage_weight units 0 x * one
  pub above : (x : ℕ) → outage_weight units 0 x * one ≤ high x * all_weight units
  pub width : (x : ℕ) → high x ≤ low x + 2 * length units

-- the weight of the states with such an outage, with one more unit
outage_weight-last : (units : List PooledUnit) (u : PooledUnit) (x : ℕ)
    → outage_weight (units ++ u ∷ []) 0 x
    ≡ up_weight u.rates * outage_weight units 0 x + out_weight u.rates * outage_weight units 0 (x - u.capacity)
outage_weight-last units u x =
    outage_weight-push units u 0 x
    ∙ ap (λ n. up_weight u.rates * outage_weight units 0 x + out_weight u.rates * n)
    (outage_weight-shift units 0 u.capacity x)

bounded_below-push : (low : ℕ → ℕ) (units : List PooledUnit) (u : PooledUnit) (x : ℕ)
    → ((y : ℕ) → low y * all_weight units ≤ outage_weight units 0 y * one)
    → with_unit floor_div low u x * all_weight (units ++ u ∷ []) ≤ outage_weight (units ++ u ∷ []) 0 x * one
bounded_below-push low units u x below =
    rw (all_weight-push units u, outage_weight-last units u x)
    (mean_bounded_below one (with_unit floor_div low u x) (out_weight u.rates) (up_weight u.rates)
    (low x) (low (x - u.capacity)) (all_weight units) (outage_weight units 0 x) (outage_weight units 0 (x - u.capacity))
    (floor_div-below _ _) (below x) (below (x - u.capacity)))

bounded_above-push : (high : ℕ → ℕ) (units : List PooledUnit) (u : PooledUnit) (x : ℕ) → AreRates u.rates
    → ((y : ℕ) → outage_weight units 0 y * one ≤ high y * all_weight units)
    → outage_weight (units ++ u ∷ []) 0 x * one ≤ with_unit ceil_div high u x * all_weight (units ++ u ∷ [])
bounded_above-push high units u x rated above =
    rw (all_weight-push units u, outage_weight-last units u x)
    (mean_bounded_above one (with_unit ceil_div high u x) (out_weight u.rates) (up_weight u.rates)
    (high x) (high (x - u.capacity)) (all_weight units) (outage_weight units 0 x) (outage_weight units 0 (x - u.capacity))
    (ceil_div-above _ _ rated.some) (above x) (above (x - u.capacity)))

width-push : (low high : ℕ → ℕ) (units : List PooledUnit) (u : PooledUnit) (x : ℕ) → AreRates u.rates
    → ((y : ℕ) → high y ≤ low y + 2 * length units)
    → with_unit ceil_div high u x ≤ with_unit floor_div low u x + 2 * length (units ++ u ∷ [])
width-push low high units u x rated width =
    let apart = mean_width (out_weight u.rates) (up_weight u.rates) (low x) (low (x - u.capacity)) (high x) (high (x - u.capacity)) (2 * length units) rated.some (width x) (width (x - u.capacity)) in
    let more : length (units ++ u ∷ []) ≡ length units + 1 = length-append units (u ∷ []) in
    let twice : 2 * length units + 2 ≡ 2 * length (units ++ u ∷ []) = omega arith in
    rw (← twice) apart

falls_low-push : (low : ℕ → ℕ) (u : PooledUnit) → AreRates u.rates
    → ((x y : ℕ) → x ≤ y → low y ≤ low x)
    → (x y : ℕ) → x ≤ y → with_unit floor_div low u y ≤ with_unit floor_div low u x
falls_low-push low u rated falls x y h =
    floor_div-le _ _ _ rated.some
    (mean-le (out_weight u.rates) (up_weight u.rates) _ _ _ _ (falls x y h) (falls (x - u.capacity) (y - u.capacity) (omega arith)))

falls_high-push : (high : ℕ → ℕ) (u : PooledUnit) → AreRates u.rates
    → ((x y : ℕ) → x ≤ y → high y ≤ high x)
    → (x y : ℕ) → x ≤ y → with_unit ceil_div high u y ≤ with_unit ceil_div high u x
falls_high-push high u rated falls x y h =
    ceil_div-le _ _ _ rated.some
    (mean-le (out_weight u.rates) (up_weight u.rates) _ _ _ _ (falls x y h) (falls (x - u.capacity) (y - u.capacity) (omega arith)))

-- an entry whose two parts are one value is that value
low_of_same : (low : ℕ → ℕ) (u : PooledUnit) (x e : ℕ) → AreRates u.rates → low x ≡ e → low (x - u.capacity) ≡ e
    → with_unit floor_div low u x ≡ e
low_of_same low u x e rated here there =
    rw (here, there) (floor_div-same (out_weight u.rates) (up_weight u.rates) e rated.some)

high_of_same : (high : ℕ → ℕ) (u : PooledUnit) (x e : ℕ) → AreRates u.rates → high x ≡ e → high (x - u.capacity) ≡ e
    → with_unit ceil_div high u x ≡ e
high_of_same high u x e rated here there =
    rw (here, there) (ceil_div-same (out_weight u.rates) (up_weight u.rates) e rated.some)

pub total_capacity-push : (units : List PooledUnit) (u : PooledUnit)
    → total_capacity (units ++ u ∷ []) ≡ total_capacity units + u.capacity
total_capacity-push units u = sum_by_push (λ unit. unit.capacity) units u

ends-push : (low high : ℕ → ℕ) (units : List PooledUnit) (u : PooledUnit) → AreRates u.rates
    → AreEndsOf low high units
    → AreEndsOf (with_unit floor_div low u) (with_unit ceil_div high u) (units ++ u ∷ [])
ends-push low high units u rated ends = record {
  certain_low = low_of_same low u 0 one rated ends.certain_low (ap low (zero_less u.capacity) ∙ ends.certain_low);
  certain_high = high_of_same high u 0 one rated ends.certain_high (ap high (zero_less u.capacity) ∙ ends.certain_high);
  falls_low = falls_low-push low u rated ends.falls_low;
  falls_high = falls_high-push high u rated ends.falls_high;
  past_low = λ x h. low_of_same low u x 0 rated (ends.past_low x (near x h)) (ends.past_low (x - u.capacity) (far x h));
  past_high = λ x h. high_of_same high u x 0 rated (ends.past_high x (near x h)) (ends.past_high (x - u.capacity) (far x h));
  ordered = λ x. floor-le-ceil _ _ _ rated.some (mean-le (out_weight u.rates) (up_weight u.rates) _ _ _ _ (ends.ordered x) (ends.ordered (x - u.capacity)));
  below = λ x. bounded_below-push low units u x ends.below;
  above = λ x. bounded_above-push high units u x rated ends.above;
  width = λ x. width-push low high units u x rated ends.width;
}
  where
    zero_less : (c : ℕ) → 0 - c ≡ 0
    zero_less c = omega arith

    near : (x : ℕ) → total_capacity (units ++ u ∷ []) < x → total_capacity units < x
    near x h = omega (arith, total_capacity-push units u)

    far : (x : ℕ) → total_capacity (units ++ u ∷ []) < x → total_capacity units < x - u.capacity
    far x h = omega (arith, total_capacity-push units u)

ends-append : (low high : ℕ → ℕ) (units more : List PooledUnit) → AreEndsOf low high units → AreRated more
    → AreEndsOf (fold (with_unit floor_div) low more) (fold (with_unit ceil_div) high more) (units ++ more)
ends-append low high units [] ends rated = subst (AreEndsOf low high) (sym (append-nil units)) ends
ends-append low high units (v ∷ more) ends rated =
    subst (AreEndsOf (fold (with_unit floor_div) (with_unit floor_div low v) more) (fold (with_unit ceil_div) (with_unit ceil_div high v) more))
    (append_assoc units (v ∷ []) more)
    (ends-append (with_unit floor_div low v) (with_unit ceil_div high v) (units ++ v ∷ []) more
    (ends-push low high units v (All-head (λ unit. AreRates unit.rates) v more rated) ends)
    (All-tail (λ unit. AreRates unit.rates) v more rated))

no_units-falls : (x y : ℕ) → x ≤ y → no_units y ≤ no_units x
no_units-falls zero zero h = omega arith
no_units-falls zero (suc y) h = omega arith
no_units-falls (suc x) zero h = absurd (omega arith)
no_units-falls (suc x) (suc y) h = omega arith

no_units-past : (x : ℕ) → 0 < x → no_units x ≡ 0
no_units-past zero h = absurd (omega arith)
no_units-past (suc x) h = refl

no_outage : (x : ℕ) → outage_weight [] 0 (suc x) ≡ 0
no_outage x = grind (arith, nat_tests)

no_units-below : (x : ℕ) → no_units x * 1 ≤ outage_weight [] 0 x * one
no_units-below zero = omega arith
no_units-below (suc x) = omega arith

no_units-above : (x : ℕ) → outage_weight [] 0 x * one ≤ no_units x * 1
no_units-above zero = omega arith
no_units-above (suc x) = omega (arith, no_outage x)

ends-none : AreEndsOf no_units no_units []
ends-none = record {
  certain_low = refl;
  certain_high = refl;
  falls_low = no_units-falls;
  falls_high = no_units-falls;
  past_low = no_units-past;
  past_high = no_units-past;
  ordered = λ x. omega arith;
  below = no_units-below;
  above = no_units-above;
  width = λ x. omega arith;
}

-- the entries that are written for units whose rates are probabilities
pub grid_ends : (units : List PooledUnit) → AreRated units
    → AreEndsOf (grid floor_div units) (grid ceil_div units) units
grid_ends units rated = ends-append no_units no_units [] units ends-none rated

-- no entry is above 1
pub part-high : (units : List PooledUnit) (x : ℕ) → AreRated units → grid ceil_div units x ≤ one
part-high units x rated =
    let top : grid ceil_div units x ≤ grid ceil_div units 0 = (grid_ends units rated).falls_high 0 x (omega arith) in
    rw (grid_ends units rated).certain_high at top

-- the written ends, moved by one more unit, are those that are written with it
pub low_end-push : (units : List PooledUnit) (u : PooledUnit) (x : ℕ) → AreRated units → AreRates u.rates
    → moved floor_div (out_weight u.rates) (out_weight u.rates + up_weight u.rates) u.capacity (grid floor_div units) x
    ≡ grid floor_div (units ++ u ∷ []) x
low_end-push units u x rated unit =
    floor_div-more (out_weight u.rates) (up_weight u.rates) (grid floor_div units x) (grid floor_div units (x - u.capacity))
    unit.some ((grid_ends units rated).falls_low (x - u.capacity) x (omega arith))
    ∙ ap (λ g. g x) (sym (fold_push (with_unit floor_div) no_units units u))

pub high_end-push : (units : List PooledUnit) (u : PooledUnit) (x : ℕ) → AreRated units → AreRates u.rates
    → moved ceil_div (out_weight u.rates) (out_weight u.rates + up_weight u.rates) u.capacity (grid ceil_div units) x
    ≡ grid ceil_div (units ++ u ∷ []) x
high_end-push units u x rated unit =
    ceil_div-more (out_weight u.rates) (up_weight u.rates) (grid ceil_div units x) (grid ceil_div units (x - u.capacity))
    unit.some ((grid_ends units rated).falls_high (x - u.capacity) x (omega arith))
    ∙ ap (λ g. g x) (sym (fold_push (with_unit ceil_div) no_units units u))
