use Rattle.std.proofs.Common.{◌≡◌, ◌≢◌, ℕ, ◌+◌, ◌-◌, ◌<◌, ◌≤◌, ◌^◌, ◌==◌, ◌⊎◌, inl, inr, Bool, true, false, ltb, cond, List, length, get_or, refl, ap, sym, ◌∙◌, subst, arith}
use Rattle.std.specs.Prelude.{slice_set}
use Rattle.std.proofs.lemmas.List.{get_or-set_same, get_or-set_other, length-set}
use Rattle.std.proofs.lemmas.Bool.{cases_eq, cases_lt, cond-true, cond-false, eq-eqb, eqb-true, ne_eqb}
use Rattle.std.proofs.lemmas.Bool.Decides.{nat_tests}
use Rattle.zone_network.specs.Sums.{inside}
use Rattle.zone_network.specs.Network.{NetworkParts, IsShape, over_devices, zone_of_device, device_count, supply_at, discharge_cap_at}
use Rattle.zone_network.proofs.SumLemmas.{sum_where-same, sum_where-none, sum_where-at}
use Rattle.zone_network.proofs.FlowLemmas.{device_among}
use Rattle.transfer_flow.specs.Flow.{FlowParts, spare_at}
use Rattle.transfer_flow.specs.Reach.{IsUsedUp}
use Rattle.cut_certificate.specs.Chain.{with_caps_before, ProvesDischarge}
use Rattle.hour_dispatch.specs.Balance.{IsInBalance}
use Rattle.hour_dispatch.specs.Stages.{nothing, IsUnused, IsSpared, set_count}
use Rattle.hour_dispatch.proofs.BalanceLemmas.{balance-moved, closed-used}
use Rattle.hour_dispatch.proofs.ServeLemmas.{IsPulled, pulled-all, pulled-short, pulled-mask}

-- a device before another gives its cap, and one from it on its discharge
caps-early : (n : NetworkParts) (discharge : ℕ → ℕ) (k i : ℕ) → i < k → with_caps_before n discharge k i ≡ discharge_cap_at n i
caps-early n discharge k i early = cond-true (ltb i k) (discharge_cap_at n i) (discharge i) (grind (arith, nat_tests))

caps-late : (n : NetworkParts) (discharge : ℕ → ℕ) (k i : ℕ) → k ≤ i → with_caps_before n discharge k i ≡ discharge i
caps-late n discharge k i late = cond-false (ltb i k) (discharge_cap_at n i) (discharge i) (grind (arith, nat_tests))

-- a mask goes on proving what it proved while nothing changes that it speaks of
kept-discharge : (n : NetworkParts) (served discharge discharge' : ℕ → ℕ) (k mask mask' : ℕ)
    → ((i : ℕ) → k ≤ i → discharge' i ≡ discharge i)
    → mask' ≡ mask
    → ProvesDischarge n served discharge k mask
    → ProvesDischarge n served discharge' k mask'
kept-discharge n served discharge discharge' k mask mask' same is h =
    let P : ℕ → Type 0 = λ m. ProvesDischarge n served discharge' k m in
    subst P (sym is)
    record {
      bound = λ none. same k (omega arith) ∙ h.bound none;
      member = h.member;
      used =
          λ some.
          omega (
            arith,
            h.used some,
            sum_where-same (λ i. inside mask (zone_of_device n.shape i)) (with_caps_before n discharge k) (with_caps_before n discharge' k) (device_count n.shape)
                (λ i below at.
                elim (cases_lt i k) [
                  | inl early ↦ caps-early n discharge k i early ∙ sym (caps-early n discharge' k i early)
                  | inr late ↦ caps-late n discharge k i late ∙ sym (same i late) ∙ sym (caps-late n discharge' k i late)
                ]),
          );
    }

-- before any device is spared
pub spare-start : (n : NetworkParts) (f : FlowParts) (served : ℕ → ℕ) (discharge sets : List ℕ)
    → length discharge ≡ device_count n.shape
    → length sets ≡ set_count n.shape
    → IsInBalance n f served (discharge_cap_at n) nothing
    → IsUnused n f (discharge_cap_at n)
    → IsSpared n f served discharge sets (device_count n.shape)
spare-start n f served discharge sets size sets_size h unused =
    let given : ℕ → ℕ = with_caps_before n (λ i. get_or discharge i 0) (device_count n.shape) in
    let same : (z : ℕ) → over_devices n.shape (with_caps_before n (λ i. get_or discharge i 0) (device_count n.shape)) (λ w. w == z) ≡ over_devices n.shape (discharge_cap_at n) (λ w. w == z) =
    λ z.
    sum_where-same (λ i. zone_of_device n.shape i == z) (with_caps_before n (λ i. get_or discharge i 0) (device_count n.shape)) (discharge_cap_at n) (device_count n.shape)
    (λ i below at. caps-early n (λ j. get_or discharge j 0) (device_count n.shape) i below) in
    record {
      size = size;
      sets_size = sets_size;
      balance =
          record {
            shape = h.shape;
            limits = h.limits;
            balance = λ z below. omega (arith, h.balance z below, same z);
          };
      within = λ i late below. absurd (omega arith);
      proved = λ i late below. absurd (omega arith);
      masks = λ i late below. absurd (omega arith);
      unused = record { most = λ z below. omega (arith, unused.most z below, same z) };
      needed = λ i late below some. absurd (omega arith);
    }

-- one device more is spared
pub spare-step : (n : NetworkParts) (old new : FlowParts) (served : ℕ → ℕ) (discharge discharge' sets sets' : List ℕ) (k moved searched : ℕ)
    → IsShape n.shape
    → k < device_count n.shape
    → IsSpared n old served discharge sets (k + 1)
    → IsPulled n old new (zone_of_device n.shape k) (discharge_cap_at n k) moved searched
    → (spare_at new (zone_of_device n.shape k) ≡ 0) ⊎ (spare_at new (zone_of_device n.shape k) + discharge_cap_at n k ≤ spare_at old (zone_of_device n.shape k))
    → discharge' ≡ slice_set discharge k (discharge_cap_at n k - moved)
    → sets' ≡ slice_set sets (n.shape.zones + k) searched
    → IsSpared n new served discharge' sets' k
spare-step n old new served discharge discharge' sets sets' k moved searched valid below before pulled own is sets_is =
    let zone : ℕ = zone_of_device n.shape k in
    let cap : ℕ = discharge_cap_at n k in
    let here : get_or discharge' k 0 ≡ discharge_cap_at n k - moved =
    ap (λ (xs : List ℕ). get_or xs k 0) is
    ∙ get_or-set_same discharge k (discharge_cap_at n k - moved) 0 (omega (arith, before.size)) in
    let others : (i : ℕ) → i ≢ k → get_or discharge' i 0 ≡ get_or discharge i 0 =
    λ i other. ap (λ (xs : List ℕ). get_or xs i 0) is ∙ get_or-set_other discharge k i (discharge_cap_at n k - moved) 0 other in
    let set_here : get_or sets' (n.shape.zones + k) 0 ≡ searched =
    ap (λ (xs : List ℕ). get_or xs (n.shape.zones + k) 0) sets_is
    ∙ get_or-set_same sets (n.shape.zones + k) searched 0 (omega (arith, before.sets_size)) in
    let set_others : (i : ℕ) → i ≢ k → get_or sets' (n.shape.zones + i) 0 ≡ get_or sets (n.shape.zones + i) 0 =
    λ i other.
    ap (λ (xs : List ℕ). get_or xs (n.shape.zones + i) 0) sets_is
    ∙ get_or-set_other sets (n.shape.zones + k) (n.shape.zones + i) searched 0 (λ e. other (omega arith)) in
    let amount : ℕ → ℕ = λ i. get_or discharge i 0 in
    let amount' : ℕ → ℕ = λ i. get_or discharge' i 0 in
    let same : (i : ℕ) → i ≢ k → with_caps_before n (λ j. get_or discharge j 0) (k + 1) i ≡ with_caps_before n (λ j. get_or discharge' j 0) k i =
    λ i other.
    elim (cases_lt i k) [
      | inl early ↦
          caps-early n (λ j. get_or discharge j 0) (k + 1) i (omega arith) ∙ sym (caps-early n (λ j. get_or discharge' j 0) k i early)
      | inr late ↦
          caps-late n (λ j. get_or discharge j 0) (k + 1) i (omega arith) ∙ sym (others i other)
          ∙ sym (caps-late n (λ j. get_or discharge' j 0) k i late)
    ] in
    let given : (z : ℕ) → over_devices n.shape (with_caps_before n (λ j. get_or discharge j 0) (k + 1)) (λ w. w == z)
    ≡ over_devices n.shape (with_caps_before n (λ j. get_or discharge' j 0) k) (λ w. w == z) + cond (zone_of_device n.shape k == z) moved 0 =
    λ z.
    let at : over_devices n.shape (with_caps_before n (λ j. get_or discharge j 0) (k + 1)) (λ w. w == z) + cond (zone_of_device n.shape k == z) (with_caps_before n (λ j. get_or discharge' j 0) k k) 0
    ≡ over_devices n.shape (with_caps_before n (λ j. get_or discharge' j 0) k) (λ w. w == z) + cond (zone_of_device n.shape k == z) (with_caps_before n (λ j. get_or discharge j 0) (k + 1) k) 0 =
    sum_where-at (λ i. zone_of_device n.shape i == z) (with_caps_before n (λ j. get_or discharge j 0) (k + 1))
    (with_caps_before n (λ j. get_or discharge' j 0) k) (device_count n.shape) k below same in
    let cap_here : with_caps_before n (λ j. get_or discharge j 0) (k + 1) k ≡ discharge_cap_at n k =
    caps-early n (λ j. get_or discharge j 0) (k + 1) k (omega arith) in
    let rest_here : with_caps_before n (λ j. get_or discharge' j 0) k k ≡ discharge_cap_at n k - moved =
    caps-late n (λ j. get_or discharge' j 0) k k (omega arith) ∙ here in
    omega (arith, part (zone_of_device n.shape k == z) (with_caps_before n (λ j. get_or discharge j 0) (k + 1) k) (with_caps_before n (λ j. get_or discharge' j 0) k k) moved (omega (arith, cap_here, rest_here, pulled.most))) in
    let balance : IsInBalance n new served (with_caps_before n (λ j. get_or discharge' j 0) k) nothing =
    balance-moved n old new served served (with_caps_before n (λ j. get_or discharge j 0) (k + 1)) (with_caps_before n (λ j. get_or discharge' j 0) k)
    nothing nothing (zone_of_device n.shape k) moved before.balance pulled.shape pulled.limits pulled.moves
    (λ z less. omega (arith, given z)) in
    let row : ProvesDischarge n served (λ j. get_or discharge' j 0) k searched =
    record {
      bound = λ none. omega (arith, here, pulled-all n old new (zone_of_device n.shape k) (discharge_cap_at n k) moved searched pulled none);
      member = λ some. (pulled-short n old new (zone_of_device n.shape k) (discharge_cap_at n k) moved searched pulled some).itself;
      used =
          λ some.
          let spent : IsUsedUp n new (zone_of_device n.shape k) searched =
          pulled-short n old new (zone_of_device n.shape k) (discharge_cap_at n k) moved searched pulled some in
          omega (
            arith,
            closed-used n new served (with_caps_before n (λ j. get_or discharge' j 0) k) nothing (inside searched) valid balance
                spent.closed (λ z less at. spent.spare z at),
            sum_where-none (λ i. inside searched (zone_of_device n.shape i)) nothing (device_count n.shape) (λ i less at. refl),
          );
    } in
    record {
      size = ap length is ∙ length-set discharge k (discharge_cap_at n k - moved) ∙ before.size;
      sets_size = ap length sets_is ∙ length-set sets (n.shape.zones + k) searched ∙ before.sets_size;
      balance = balance;
      within =
          λ i late less.
          elim (cases_eq i k) [
            | inl at ↦ subst (λ (j : ℕ). get_or discharge' j 0 ≤ discharge_cap_at n j) (sym at) (omega (arith, here))
            | inr other ↦ omega (arith, others i other, before.within i (omega arith) less)
          ];
      proved =
          λ i late less.
          elim (cases_eq i k) [
            | inl at ↦
                subst (λ (j : ℕ). ProvesDischarge n served (λ j. get_or discharge' j 0) j (get_or sets' (n.shape.zones + j) 0)) (sym at)
                (subst (λ (m : ℕ). ProvesDischarge n served (λ j. get_or discharge' j 0) k m) (sym set_here) row)
            | inr other ↦
                kept-discharge n served (λ j. get_or discharge j 0) (λ j. get_or discharge' j 0) i (get_or sets (n.shape.zones + i) 0)
                (get_or sets' (n.shape.zones + i) 0) (λ j more. others j (omega arith)) (set_others i other)
                (before.proved i (omega arith) less)
          ];
      masks =
          λ i late less.
          elim (cases_eq i k) [
            | inl at ↦
                subst (λ (j : ℕ). get_or sets' (n.shape.zones + j) 0 < 2 ^ n.shape.zones) (sym at)
                (omega (arith, set_here, pulled-mask n old new (zone_of_device n.shape k) (discharge_cap_at n k) moved searched pulled))
            | inr other ↦ omega (arith, set_others i other, before.masks i (omega arith) less)
          ];
      unused =
          record {
            most =
                λ z less.
                elim (cases_eq (zone_of_device n.shape k) z) [
                  | inl at ↦
                      subst (λ (w : ℕ). spare_at new w ≤ supply_at n w + over_devices n.shape (with_caps_before n (λ j. get_or discharge' j 0) k) (λ v. v == w)) at
                      (elim own [
                        | inl nothing' ↦ omega arith
                        | inr enough ↦
                            omega (
                              arith,
                              before.unused.most (zone_of_device n.shape k) (device_among n.shape k valid below),
                              given (zone_of_device n.shape k),
                              cond-true (zone_of_device n.shape k == zone_of_device n.shape k) moved 0 (eq-eqb (zone_of_device n.shape k) (zone_of_device n.shape k) refl),
                              pulled.most,
                            )
                      ])
                  | inr apart ↦
                      omega (
                        arith,
                        before.unused.most z less,
                        given z,
                        cond-false (zone_of_device n.shape k == z) moved 0 (ne_eqb (zone_of_device n.shape k) z apart),
                        pulled.moves.fell z,
                      )
                ];
          };
      needed =
          λ i late less some.
          elim (cases_eq i k) [
            | inl at ↦
                let less_moved : moved < discharge_cap_at n k =
                omega (arith, here, subst (λ (j : ℕ). 0 < get_or discharge' j 0) at some) in
                let spent : IsUsedUp n new (zone_of_device n.shape k) searched = pulled.short less_moved in
                subst (λ (j : ℕ). spare_at new (zone_of_device n.shape j) ≡ 0) (sym at) (spent.spare (zone_of_device n.shape k) spent.itself)
            | inr other ↦
                omega (
                  arith,
                  before.needed i (omega arith) less (omega (arith, others i other)),
                  pulled.moves.fell (zone_of_device n.shape i),
                )
          ];
    }
  where
    part : (b : Bool) (cap rest moved : ℕ) → cap ≡ rest + moved → cond b cap 0 ≡ cond b rest 0 + cond b moved 0
    part true cap rest moved e = e
    part false cap rest moved e = omega arith

-- in the end nothing but unused supply is spare
pub spare-end : (n : NetworkParts) (f : FlowParts) (served : ℕ → ℕ) (discharge sets : List ℕ)
    → IsSpared n f served discharge sets 0
    → IsInBalance n f served (λ i. get_or discharge i 0) nothing
spare-end n f served discharge sets h =
    record {
      shape = h.balance.shape;
      limits = h.balance.limits;
      balance =
          λ z below.
          omega (
            arith,
            h.balance.balance z below,
            sum_where-same (λ i. zone_of_device n.shape i == z) (with_caps_before n (λ i. get_or discharge i 0) 0) (λ i. get_or discharge i 0) (device_count n.shape)
                (λ i less at. caps-late n (λ j. get_or discharge j 0) 0 i (omega arith)),
          );
    }

pub spare-supply : (n : NetworkParts) (f : FlowParts) (served : ℕ → ℕ) (discharge sets : List ℕ)
    → IsSpared n f served discharge sets 0
    → (z : ℕ)
    → z < n.shape.zones
    → spare_at f z ≤ supply_at n z
spare-supply n f served discharge sets h z below =
    elim (cases_eq (spare_at f z) 0) [
      | inl none ↦ omega arith
      | inr some ↦
          omega (
            arith,
            h.unused.most z below,
            sum_where-none (λ i. zone_of_device n.shape i == z) (with_caps_before n (λ i. get_or discharge i 0) 0) (device_count n.shape)
                (λ i less at.
                elim (cases_eq (get_or discharge i 0) 0) [
                  | inl idle ↦ caps-late n (λ j. get_or discharge j 0) 0 i (omega arith) ∙ idle
                  | inr used ↦
                      let there : spare_at f z ≡ 0 =
                      subst (λ (w : ℕ). spare_at f w ≡ 0) (eqb-true (zone_of_device n.shape i) z at) (h.needed i (omega arith) less (omega arith)) in
                      absurd (some there)
                ]),
          )
    ]
