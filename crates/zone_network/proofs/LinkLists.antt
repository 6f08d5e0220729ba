use Rattle.std.proofs.Common.{◌≡◌, ℕ, zero, suc, add-one, ◌+◌, ◌<◌, inl, inr, Bool, true, false, List, [], ◌∷◌, ◌++◌, filter, ◌==◌, ap, sym, ◌∙◌, subst, arith, map}
use Rattle.std.specs.Prelude.{All, Contains}
use Rattle.std.specs.List.{range_with_len}
use Rattle.std.proofs.lemmas.List.FromFn.{map-range_with_len_more}
use Rattle.std.proofs.lemmas.List.Elements.{All-nil, All-push, All-weaker, Contains-push, Contains-append_left}
use Rattle.std.proofs.lemmas.Bool.{cases_Bool, cases_eq, eq-eqb, or_left, or_right}
use Rattle.ra_base.proofs.Passing.{passing_pushed, passing_same}
use Rattle.zone_network.specs.declared.links.Link.{Link}
use Rattle.zone_network.specs.Network.{ShapeParts, link_count, from_zone, to_zone, touches_at, links_of, touching}

-- the numbers below n that pass are below n
pub passing_below : (p : ℕ → Bool) (n : ℕ) → All (λ k. k < n) (filter p (range_with_len 0 n))
passing_below p zero = All-nil (λ k. k < 0)
passing_below p (suc n) =
    let before : All (λ k. k < suc n) (filter p (range_with_len 0 n)) =
    All-weaker (λ k. k < n) (λ k. k < suc n) (λ k h. omega arith) (filter p (range_with_len 0 n)) (passing_below p n) in
    let more : All (λ k. k < suc n) (filter p (range_with_len 0 (n + 1))) =
    elim (cases_Bool (p n)) [
      | inl holds ↦
          subst (λ (xs : List ℕ). All (λ k. k < suc n) xs) (sym (passing_pushed p n holds))
          (All-push (λ k. k < suc n) (filter p (range_with_len 0 n)) n before (omega arith))
      | inr fails ↦ subst (λ (xs : List ℕ). All (λ k. k < suc n) xs) (sym (passing_same p n fails)) before
    ] in
    subst (λ (m : ℕ). All (λ k. k < suc n) (filter p (range_with_len 0 m))) (add-one n) more

-- and each of those that passes is there
pub passing_there : (p : ℕ → Bool) (n k : ℕ) → k < n → p k ≡ true → Contains (filter p (range_with_len 0 n)) k
passing_there p zero k below h = absurd (omega arith)
passing_there p (suc n) k below h =
    let more : Contains (filter p (range_with_len 0 (n + 1))) k =
    elim (cases_eq k n) [
      | inl here ↦
          let at : p n ≡ true = ap p (sym here) ∙ h in
          subst (λ (xs : List ℕ). Contains xs k) (sym (passing_pushed p n at))
          (subst (λ (x : ℕ). Contains (filter p (range_with_len 0 n) ++ n ∷ []) x) (sym here)
          (Contains-push (filter p (range_with_len 0 n)) n))
      | inr other ↦
          let before : Contains (filter p (range_with_len 0 n)) k = passing_there p n k (omega arith) h in
          elim (cases_Bool (p n)) [
            | inl holds ↦
                subst (λ (xs : List ℕ). Contains xs k) (sym (passing_pushed p n holds))
                (Contains-append_left (filter p (range_with_len 0 n)) (n ∷ []) k before)
            | inr fails ↦ subst (λ (xs : List ℕ). Contains xs k) (sym (passing_same p n fails)) before
          ]
    ] in
    subst (λ (m : ℕ). Contains (filter p (range_with_len 0 m)) k) (add-one n) more

-- and passes
pub passing_passes : (p : ℕ → Bool) (n : ℕ) → All (λ k. p k ≡ true) (filter p (range_with_len 0 n))
passing_passes p zero = All-nil (λ k. p k ≡ true)
passing_passes p (suc n) =
    let more : All (λ k. p k ≡ true) (filter p (range_with_len 0 (n + 1))) =
    elim (cases_Bool (p n)) [
      | inl holds ↦
          subst (λ (xs : List ℕ). All (λ k. p k ≡ true) xs) (sym (passing_pushed p n holds))
          (All-push (λ k. p k ≡ true) (filter p (range_with_len 0 n)) n (passing_passes p n) holds)
      | inr fails ↦ subst (λ (xs : List ℕ). All (λ k. p k ≡ true) xs) (sym (passing_same p n fails)) (passing_passes p n)
    ] in
    subst (λ (m : ℕ). All (λ k. p k ≡ true) (filter p (range_with_len 0 m))) (add-one n) more

-- the links of a zone are links
pub links_of-below : (s : ShapeParts) (zone : ℕ) → All (λ l. l < link_count s) (links_of s zone)
links_of-below s zone = passing_below (touches_at s.ends zone) (link_count s)

-- and each starts or ends there
pub links_of-touch : (s : ShapeParts) (zone : ℕ) → All (λ l. touches_at s.ends zone l ≡ true) (links_of s zone)
links_of-touch s zone = passing_passes (touches_at s.ends zone) (link_count s)

-- a link is among those of the zone where it starts, and of the one where it ends
pub links_of-start : (s : ShapeParts) (zone l : ℕ) → l < link_count s → from_zone s l ≡ zone → Contains (links_of s zone) l
links_of-start s zone l below start =
    passing_there (touches_at s.ends zone) (link_count s) l below
    (or_left (from_zone s l == zone) (to_zone s l == zone) (eq-eqb (from_zone s l) zone start))

pub links_of-end : (s : ShapeParts) (zone l : ℕ) → l < link_count s → to_zone s l ≡ zone → Contains (links_of s zone) l
links_of-end s zone l below end =
    passing_there (touches_at s.ends zone) (link_count s) l below
    (or_right (from_zone s l == zone) (to_zone s l == zone) (eq-eqb (to_zone s l) zone end))

-- a loop's step over the zones
pub touching_pushed : (ends : List Link) (zone : ℕ) (lists : List (List ℕ)) (made : List ℕ)
    → lists ≡ map (touching ends) (range_with_len 0 zone)
    → made ≡ touching ends zone
    → lists ++ made ∷ [] ≡ map (touching ends) (range_with_len 0 (zone + 1))
touching_pushed ends zone lists made before is =
    ap (λ (xs : List (List ℕ)). xs ++ made ∷ []) before
    ∙ ap (λ (x : List ℕ). map (touching ends) (range_with_len 0 zone) ++ x ∷ []) is
    ∙ sym (map-range_with_len_more (touching ends) 0 zone zone (omega arith))
