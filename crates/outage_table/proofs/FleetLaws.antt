-- Lists of ends: one more unit, the zeros at the end, and what stands in a table.
use Rattle.std.proofs.Common.{◌≡◌, ℕ, zero, suc, ◌+◌, ◌-◌, ◌*◌, ◌<◌, ◌≤◌, List, [], ◌∷◌, ◌++◌, length, get_or, take, drop, replicate, inl, inr, refl, sym, ap, subst, max, ◌∙◌, arith}
use Rattle.std.proofs.lemmas.Bool.{cases_lt}
use Rattle.std.proofs.lemmas.List.{get_or_past, get_or-take, take_all, take_more}
use Rattle.std.proofs.lemmas.List.Elements.{All-take, All-get_or}
use Rattle.fixed_interval.specs.declared.enclosure.Enclosure.{Enclosure}
use Rattle.fixed_interval.specs.Enclosure.{one}
use Rattle.fixed_interval.specs.Rounding.{floor_div, ceil_div}
use Rattle.fixed_interval.proofs.Rounds.{floor_div-small}
use Rattle.system_model.specs.Rates.{AreRates, out_weight, up_weight}
use Rattle.outage_table.specs.declared.units.PooledUnit.{PooledUnit}
use Rattle.outage_table.specs.States.{total_capacity}
use Rattle.outage_table.specs.Grid.{no_units, grid}
use Rattle.outage_table.specs.Table.{AreEntries}
use Rattle.outage_table.specs.Fleet.{moved, AreFalling, AreJoined, end_of}
use Rattle.outage_table.proofs.StateLaws.{AreRated}
use Rattle.outage_table.proofs.GridLaws.{grid_ends, part-high, low_end-push, high_end-push}
use Rattle.outage_table.proofs.TableLaws.{given_back}
use Rattle.outage_table.proofs.FarLaws.{end_of-near, end_of-far}

-- the ends are those that are written for the units
pub record AreEnds (round : ℕ → ℕ → ℕ) (end : ℕ → ℕ) (units : List PooledUnit) : Type 0 where
  pub read : (x : ℕ) → end x ≡ grid round units x

pub ends_none : (round : ℕ → ℕ → ℕ) (ends before : List ℕ) (e : ℕ) → ends ≡ before ++ e ∷ [] → before ≡ [] → e ≡ one → AreEnds round (λ x. get_or ends x 0) []
ends_none round ends before e all first is =
    let whole : ends ≡ one ∷ [] = all ∙ ap (λ xs. xs ++ e ∷ []) first ∙ ap (λ n. n ∷ []) is in
    record { read = λ x. ap (λ xs. get_or xs x 0) whole ∙ alone x }
  where
    alone : (x : ℕ) → get_or (one ∷ []) x 0 ≡ no_units x
    alone zero = refl
    alone (suc x) = refl

pub high_none : (near before far : List ℕ) (e : ℕ) → near ≡ before ++ e ∷ [] → before ≡ [] → e ≡ one → far ≡ [] → AreEnds ceil_div (end_of near far) []
high_none near before far e all first is none = rw none (record { read = λ x. alone x ∙ (ends_none ceil_div near before e all first is).read x })
  where
    alone : (x : ℕ) → end_of near [] x ≡ get_or near x 0
    alone x = elim (cases_lt x (length near)) [
      | inl inside ↦ end_of-near near [] x inside
      | inr outside ↦ end_of-far near [] x outside ∙ sym (get_or_past near x 0 outside)
    ]

pub low_falling : (end : ℕ → ℕ) (units : List PooledUnit) → AreRated units → AreEnds floor_div end units → AreFalling end
low_falling end units rated are = record {
  falls = λ x y h. rw (are.read x, are.read y) ((grid_ends units rated).falls_low x y h);
  part = λ x.
      let top : grid floor_div units x ≤ grid ceil_div units x = (grid_ends units rated).ordered x in
      let most = part-high units x rated in
      rw (are.read x) (omega arith);
}

pub high_falling : (end : ℕ → ℕ) (units : List PooledUnit) → AreRated units → AreEnds ceil_div end units → AreFalling end
high_falling end units rated are = record {
  falls = λ x y h. rw (are.read x, are.read y) ((grid_ends units rated).falls_high x y h);
  part = λ x. rw (are.read x) (part-high units x rated);
}

-- one more unit
ends_push : (round : ℕ → ℕ → ℕ) (end more : ℕ → ℕ) (units : List PooledUnit) (u : PooledUnit) (out all : ℕ)
    → ((x : ℕ) → moved round (out_weight u.rates) (out_weight u.rates + up_weight u.rates) u.capacity (grid round units) x ≡ grid round (units ++ u ∷ []) x)
    → AreEnds round end units → out ≡ out_weight u.rates → all ≡ out_weight u.rates + up_weight u.rates
    → ((x : ℕ) → more x ≡ moved round out all u.capacity end x) → AreEnds round more (units ++ u ∷ [])
ends_push round end more units u out all pushed are is_out is_all moves =
    record { read = λ x. moves x ∙ rw (is_out, is_all, are.read x, are.read (x - u.capacity)) (pushed x) }

pub low_push : (end more : ℕ → ℕ) (units : List PooledUnit) (u : PooledUnit) (out all : ℕ) → AreRated units → AreRates u.rates
    → AreEnds floor_div end units → out ≡ out_weight u.rates → all ≡ out_weight u.rates + up_weight u.rates
    → ((x : ℕ) → more x ≡ moved floor_div out all u.capacity end x) → AreEnds floor_div more (units ++ u ∷ [])
low_push end more units u out all rated unit = ends_push floor_div end more units u out all (λ x. low_end-push units u x rated unit)

pub high_push : (end more : ℕ → ℕ) (units : List PooledUnit) (u : PooledUnit) (out all : ℕ) → AreRated units → AreRates u.rates
    → AreEnds ceil_div end units → out ≡ out_weight u.rates → all ≡ out_weight u.rates + up_weight u.rates
    → ((x : ℕ) → more x ≡ moved ceil_div out all u.capacity end x) → AreEnds ceil_div more (units ++ u ∷ [])
high_push end more units u out all rated unit = ends_push ceil_div end more units u out all (λ x. high_end-push units u x rated unit)

-- zeros at the end change no end
pub filled : (ends longer : List ℕ) (n k : ℕ) → length ends ≤ n → longer ≡ take n ends ++ replicate {A = ℕ} k 0
    → (x : ℕ) → get_or longer x 0 ≡ get_or ends x 0
filled ends longer n k h is x = rw (is, take_all n ends h) (padded ends k x)
  where
    zeros : (k x : ℕ) → get_or (replicate {A = ℕ} k 0) x 0 ≡ 0
    zeros zero x = refl
    zeros (suc k) zero = refl
    zeros (suc k) (suc x) = zeros k x

    padded : (ends : List ℕ) (k x : ℕ) → get_or (ends ++ replicate {A = ℕ} k 0) x 0 ≡ get_or ends x 0
    padded [] k x = zeros k x
    padded (e ∷ ends) k zero = refl
    padded (e ∷ ends) k (suc x) = padded ends k x

-- cut behind the last end that isn't 0
pub trimmed : (ends : List ℕ) (n : ℕ) → ((x : ℕ) → n ≤ x → get_or ends x 0 ≡ 0) → (x : ℕ) → get_or (take n ends) x 0 ≡ get_or ends x 0
trimmed ends n zeros x = elim (cases_lt x n) [
  | inl near ↦ get_or-take n ends x 0 near
  | inr far ↦ past n ends x far ∙ sym (zeros x far)
]
  where
    past : (n : ℕ) (xs : List ℕ) (x : ℕ) → n ≤ x → get_or (take n xs) x 0 ≡ 0
    past zero xs x h = refl
    past (suc n) [] x h = refl
    past (suc n) (y ∷ xs) zero h = absurd (omega arith)
    past (suc n) (y ∷ xs) (suc x) h = past n xs x (omega arith)

-- past both ends nothing is moved
still_low : (out all : ℕ) → 0 < all → 0 + floor_div (out * (0 - 0)) all ≡ 0
still_low out all some =
    let none : out * (0 - 0) ≡ 0 = omega arith in
    let nothing : floor_div 0 all ≡ 0 = floor_div-small 0 all some in
    rw none (omega arith)

-- the whole of one addition: filled up, lent, mixed, given back and trimmed
pub low_added : (ends longer lent mixed now : List ℕ) (count n k capacity out all : ℕ) → 0 < all
    → length ends + capacity ≡ n → longer ≡ take n ends ++ replicate {A = ℕ} k 0 → length longer ≡ n → count ≡ n → lent ≡ longer → length mixed ≡ length lent
    → ((x : ℕ) → x < length lent → get_or mixed x 0 ≡ moved floor_div out all capacity (λ y. get_or lent y 0) x)
    → ((x : ℕ) → get_or now x 0 ≡ get_or (take count (mixed ++ drop (length mixed) longer)) x 0)
    → (x : ℕ) → get_or now x 0 ≡ moved floor_div out all capacity (λ y. get_or ends y 0) x
low_added ends longer lent mixed now count n k capacity out all some size is long whole lends mixes moves same x =
    let sized : length mixed ≡ length longer = mixes ∙ ap length lends in
    let back : take count (mixed ++ drop (length mixed) longer) ≡ mixed
    = given_back mixed longer count (sized ∙ long ∙ sym whole) (long ∙ sym whole) in
    let first : get_or now x 0 ≡ get_or mixed x 0 = same x ∙ ap (λ xs. get_or xs x 0) back in
    let read = filled ends longer n k (omega arith) is in
    first ∙ elim (cases_lt x (length lent)) [
      | inl near ↦ (let m = moves x near in rw (lends, read x, read (x - capacity)) at m)
      | inr far ↦
          rw (get_or_past mixed x 0 (omega arith), get_or_past ends x 0 (omega (arith, ap length lends)), get_or_past ends (x - capacity) 0 (omega (arith, ap length lends)))
          (sym (still_low out all some))
    ]

-- one more of the units
pub low_more : (end more : ℕ → ℕ) (units : List PooledUnit) (i : ℕ) (d : PooledUnit) (out all : ℕ) → AreRated units → i < length units
    → AreEnds floor_div end (take i units) → out ≡ out_weight (get_or units i d).rates
    → all ≡ out_weight (get_or units i d).rates + up_weight (get_or units i d).rates
    → ((x : ℕ) → more x ≡ moved floor_div out all (get_or units i d).capacity end x)
    → AreEnds floor_div more (take (i + 1) units)
low_more end more units i d out all rated h are is_out is_all moves =
    rw (take_more units i d h)
    (low_push end more (take i units) (get_or units i d) out all (All-take (λ unit. AreRates unit.rates) i units rated)
    (All-get_or (λ unit. AreRates unit.rates) units i d h rated) are is_out is_all moves)

pub high_more : (end more : ℕ → ℕ) (units : List PooledUnit) (i : ℕ) (d : PooledUnit) (out all : ℕ) → AreRated units → i < length units
    → AreEnds ceil_div end (take i units) → out ≡ out_weight (get_or units i d).rates
    → all ≡ out_weight (get_or units i d).rates + up_weight (get_or units i d).rates
    → ((x : ℕ) → more x ≡ moved ceil_div out all (get_or units i d).capacity end x)
    → AreEnds ceil_div more (take (i + 1) units)
high_more end more units i d out all rated h are is_out is_all moves =
    rw (take_more units i d h)
    (high_push end more (take i units) (get_or units i d) out all (All-take (λ unit. AreRates unit.rates) i units rated)
    (All-get_or (λ unit. AreRates unit.rates) units i d h rated) are is_out is_all moves)

-- the high ends one by one
pub high_written : (near filled far lent : List ℕ) (units : List PooledUnit) (n x : ℕ) → AreEnds ceil_div (end_of near far) units
    → lent ≡ far → ((x : ℕ) → end_of filled lent x ≡ end_of near lent x) → length filled ≡ max (length near) n → x < n
    → get_or filled x 0 ≡ grid ceil_div units x
high_written near filled far lent units n x are lends same long h =
    sym (end_of-near filled far x (omega arith))
    ∙ subst (λ bs. (x : ℕ) → end_of filled bs x ≡ end_of near bs x) lends same x ∙ are.read x

-- low ends are not above high ends
pub joined_ordered : (low high : List ℕ) (units : List PooledUnit) (i n x : ℕ) → AreRated units → length units ≤ i
    → AreEnds floor_div (λ x. get_or low x 0) (take i units) → ((x : ℕ) → x < n → get_or high x 0 ≡ grid ceil_div (take i units) x) → x < n → get_or low x 0 ≤ get_or high x 0
joined_ordered low high units i n x rated whole are are' h =
    rw (are.read x, are' x h, take_all i units whole) ((grid_ends units rated).ordered x)

-- the entries of all units
pub joined_entries : (low high : List ℕ) (units : List PooledUnit) (i : ℕ) (entries : List Enclosure) → length units ≤ i
    → AreEnds floor_div (λ x. get_or low x 0) (take i units)
    → ((x : ℕ) → x < total_capacity (take i units) + 1 → get_or high x 0 ≡ grid ceil_div (take i units) x)
    → AreJoined entries low high (total_capacity (take i units) + 1) → AreEntries entries units
joined_entries low high units i entries whole are are' joins =
    let all = take_all i units whole in
    record {
      count = joins.count ∙ ap (λ us. total_capacity us + 1) all;
      low = λ x d h. joins.low_ends x d h ∙ are.read x ∙ ap (λ us. grid floor_div us x) all;
      high = λ x d h. joins.high_ends x d h ∙ are' x (omega (arith, joins.count)) ∙ ap (λ us. grid ceil_div us x) all;
    }

-- what stands past the last unit
abbrev pub no_pooled : PooledUnit
no_pooled = record { capacity = 0; rates = record { f = 0; r = 0 } }
