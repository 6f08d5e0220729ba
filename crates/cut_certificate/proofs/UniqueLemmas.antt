use Rattle.std.proofs.Common.{◌≡◌, ℕ, zero, suc, ◌+◌, ◌<◌, ◌≤◌, inl, inr, List, [], ◌∷◌, ◌++◌, map, reverse, length, refl, ap, sym, ◌∙◌, subst, arith}
use Rattle.std.proofs.lemmas.Bool.{cases_eq, cases_lt}
use Rattle.std.proofs.lemmas.List.{length-append, length-map, append_assoc, append-nil}
use Rattle.std.specs.List.{range_with_len}
use Rattle.zone_network.specs.Network.{NetworkParts, device_count}
use Rattle.zone_network.specs.Dispatch.{Dispatch, IsBest, Precedes, unserved_at, uncharged_at, compared_list}
use Rattle.sample_totals.specs.declared.outcomes.HourOutcome.{HourOutcome}
use Rattle.cut_certificate.specs.Chain.{IsBestOutcome, IsOnlyBestOutcome}
use Rattle.cut_certificate.proofs.OrderLemmas.{reverse-range}

-- of two lists of one length, neither of which comes first, each is the other
neither_precedes : (xs ys : List ℕ) → length xs ≡ length ys → ¬ Precedes xs ys → ¬ Precedes ys xs → xs ≡ ys
neither_precedes [] [] size h k = refl
neither_precedes [] (y ∷ ys) size h k = absurd (omega arith)
neither_precedes (x ∷ xs) [] size h k = absurd (omega arith)
neither_precedes (x ∷ xs) (y ∷ ys) size h k =
    elim (cases_eq x y) [
      | inl same ↦
          let rest : xs ≡ ys =
          neither_precedes xs ys (omega arith) (λ p. h (inr (same, p))) (λ p. k (inr (sym same, p))) in
          ap (λ (z : ℕ). z ∷ xs) same ∙ ap (λ (zs : List ℕ). y ∷ zs) rest
      | inr other ↦
          elim (cases_lt x y) [
            | inl less ↦ absurd (h (inl less))
            | inr more ↦ absurd (k (inl (omega arith)))
          ]
    ]

-- two amounts agree at each place of a list
abbrev Agree : (ℕ → ℕ) → (ℕ → ℕ) → List ℕ → Type 0
Agree f g [] = Unit {0}
Agree f g (k ∷ ks) = (f k ≡ g k) × Agree f g ks

agree_first : (f g : ℕ → ℕ) (places xs ys : List ℕ)
    → map f places ++ xs ≡ map g places ++ ys
    → Agree f g places × (xs ≡ ys)
agree_first f g [] xs ys e = (tt, e)
agree_first f g (k ∷ ks) xs ys e =
    let here : f k ≡ g k = cc e in
    let rest : map f ks ++ xs ≡ map g ks ++ ys = cc e in
    let more : Agree f g ks × (xs ≡ ys) = agree_first f g ks xs ys rest in
    ((here, more.0), more.1)

agree_range : (f g : ℕ → ℕ) (start len : ℕ)
    → Agree f g (range_with_len start len)
    → (k : ℕ)
    → start ≤ k
    → k < start + len
    → f k ≡ g k
agree_range f g start zero agree k from below = absurd (omega arith)
agree_range f g start (suc len) agree k from below =
    elim (cases_eq k start) [
      | inl here ↦ ap f here ∙ agree.0 ∙ ap g (sym here)
      | inr other ↦ agree_range f g (start + 1) len agree.1 k (omega arith) (omega arith)
    ]

agree_reversed : (f g : ℕ → ℕ) (len : ℕ)
    → Agree f g (reverse (range_with_len 0 len))
    → (k : ℕ)
    → k < len
    → f k ≡ g k
agree_reversed f g zero agree k below = absurd (omega arith)
agree_reversed f g (suc len) agree k below =
    let split : Agree f g (len ∷ reverse (range_with_len 0 len)) = subst (Agree f g) (reverse-range len) agree in
    elim (cases_eq k len) [
      | inl here ↦ ap f here ∙ split.0 ∙ ap g (sym here)
      | inr other ↦ agree_reversed f g len split.1 k (omega arith)
    ]

length_three : (f g h : ℕ → ℕ) (xs ys zs : List ℕ)
    → length (map f xs ++ map g ys ++ map h zs) ≡ length xs + length ys + length zs
length_three f g h xs ys zs =
    omega (arith, length-append (map f xs ++ map g ys) (map h zs), length-append (map f xs) (map g ys), length-map xs f, length-map ys g, length-map zs h)

-- two best dispatches are compared by the same list
best_compared : (n : NetworkParts) (d e : Dispatch) → IsBest n d → IsBest n e → compared_list n d ≡ compared_list n e
best_compared n d e best best' =
    let zones : List ℕ = range_with_len 0 n.shape.zones in
    let devices : List ℕ = range_with_len 0 (device_count n.shape) in
    let size : length (compared_list n d) ≡ length (compared_list n e) =
    length_three (unserved_at n d) d.discharge (uncharged_at n d) zones (reverse devices) devices
    ∙ sym (length_three (unserved_at n e) e.discharge (uncharged_at n e) zones (reverse devices) devices) in
    neither_precedes (compared_list n d) (compared_list n e) size (best'.none_better d best.feasible) (best.none_better e best'.feasible)

-- and so leave the same unserved, discharge the same and charge the same
record SameUse (n : NetworkParts) (d e : Dispatch) : Type 0 where
  unserved : (z : ℕ) → z < n.shape.zones → unserved_at n d z ≡ unserved_at n e z
  discharge : (k : ℕ) → k < device_count n.shape → d.discharge k ≡ e.discharge k
  charge : (k : ℕ) → k < device_count n.shape → d.charge k ≡ e.charge k

best_same : (n : NetworkParts) (d e : Dispatch) → IsBest n d → IsBest n e → SameUse n d e
best_same n d e best best' =
    let zones : List ℕ = range_with_len 0 n.shape.zones in
    let devices : List ℕ = range_with_len 0 (device_count n.shape) in
    let same : map (unserved_at n d) zones ++ (map d.discharge (reverse devices) ++ (map (uncharged_at n d) devices ++ []))
    ≡ map (unserved_at n e) zones ++ (map e.discharge (reverse devices) ++ (map (uncharged_at n e) devices ++ [])) =
    as_three (map (unserved_at n d) zones) (map d.discharge (reverse devices)) (map (uncharged_at n d) devices)
    ∙ best_compared n d e best best'
    ∙ sym (as_three (map (unserved_at n e) zones) (map e.discharge (reverse devices)) (map (uncharged_at n e) devices)) in
    let first : Agree (unserved_at n d) (unserved_at n e) zones
    × (map d.discharge (reverse devices) ++ (map (uncharged_at n d) devices ++ []) ≡ map e.discharge (reverse devices) ++ (map (uncharged_at n e) devices ++ [])) =
    agree_first (unserved_at n d) (unserved_at n e) zones _ _ same in
    let second : Agree d.discharge e.discharge (reverse devices)
    × (map (uncharged_at n d) devices ++ [] ≡ map (uncharged_at n e) devices ++ []) =
    agree_first d.discharge e.discharge (reverse devices) _ _ first.1 in
    let third : Agree (uncharged_at n d) (uncharged_at n e) devices × ([] ≡ []) =
    agree_first (uncharged_at n d) (uncharged_at n e) devices [] [] second.1 in
    record {
      unserved = λ z below. agree_range (unserved_at n d) (unserved_at n e) 0 n.shape.zones first.0 z (omega arith) (omega arith);
      discharge = λ k below. agree_reversed d.discharge e.discharge (device_count n.shape) second.0 k below;
      charge = λ k below.
          omega (arith, agree_range (uncharged_at n d) (uncharged_at n e) 0 (device_count n.shape) third.0 k (omega arith) (omega arith), best.feasible.charge k below, best'.feasible.charge k below);
    }
  where
    as_three : (xs ys zs : List ℕ) → xs ++ (ys ++ (zs ++ [])) ≡ xs ++ ys ++ zs
    as_three xs ys zs = ap (λ (end : List ℕ). xs ++ (ys ++ end)) (append-nil zs) ∙ sym (append_assoc xs ys zs)

-- no other outcome is best
pub only_best : (n : NetworkParts) (outcome : HourOutcome) → IsBestOutcome n outcome → IsOnlyBestOutcome n outcome
only_best n outcome best =
    record {
      best = best;
      only = λ other best'.
          let same : SameUse n best.0 best'.0 = best_same n best.0 best'.0 best.1 best'.1 in
          record {
            unserved = λ z below. best.2.unserved z below ∙ same.unserved z below ∙ sym (best'.2.unserved z below);
            discharge = λ k below. best.2.discharge k below ∙ same.discharge k below ∙ sym (best'.2.discharge k below);
            charge = λ k below. best.2.charge k below ∙ same.charge k below ∙ sym (best'.2.charge k below);
          };
    }
