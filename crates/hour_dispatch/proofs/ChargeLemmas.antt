use Rattle.std.proofs.Common.{◌≡◌, ◌≢◌, ℕ, ◌+◌, ◌<◌, ◌≤◌, ◌^◌, ◌==◌, inl, inr, Bool, true, false, ltb, leb, cond, List, length, get_or, refl, ap, sym, ◌∙◌, subst, arith}
use Rattle.std.specs.Prelude.{slice_set}
use Rattle.std.proofs.lemmas.List.{get_or-set_same, get_or-set_other, length-set}
use Rattle.std.proofs.lemmas.Bool.{cases_eq, cases_lt, cond-true, cond-false}
use Rattle.std.proofs.lemmas.Bool.Decides.{nat_tests}
use Rattle.zone_network.specs.Sums.{inside}
use Rattle.zone_network.specs.Network.{NetworkParts, IsShape, over_devices, zone_of_device, device_count, supply_at, charge_cap_at}
use Rattle.zone_network.proofs.SumLemmas.{sum_where-same, sum_where-at}
use Rattle.transfer_flow.specs.Flow.{FlowParts, spare_at}
use Rattle.transfer_flow.specs.Reach.{IsUsedUp}
use Rattle.cut_certificate.specs.Chain.{up_to, ProvesCharge}
use Rattle.hour_dispatch.specs.Balance.{IsInBalance}
use Rattle.hour_dispatch.specs.Stages.{nothing, charged_before, IsCharged, set_count}
use Rattle.hour_dispatch.proofs.BalanceLemmas.{balance-moved, closed-used}
use Rattle.hour_dispatch.proofs.ServeLemmas.{IsPulled, pulled-all, pulled-short, pulled-mask}

-- a device before another charges, and none from it on
pub charged-early : (charge : List ℕ) (k i : ℕ) → i < k → charged_before charge k i ≡ get_or charge i 0
charged-early charge k i early = cond-true (ltb i k) (get_or charge i 0) 0 (grind (arith, nat_tests))

charged-late : (charge : List ℕ) (k i : ℕ) → k ≤ i → charged_before charge k i ≡ 0
charged-late charge k i late = cond-false (ltb i k) (get_or charge i 0) 0 (grind (arith, nat_tests))

charged-up_to : (charge : List ℕ) (k i : ℕ) → up_to (λ j. get_or charge j 0) k i ≡ charged_before charge (k + 1) i
charged-up_to charge k i =
    let same : leb i k ≡ ltb i (k + 1) = grind (arith, nat_tests) in
    ap (λ (b : Bool). cond b (get_or charge i 0) 0) same

-- a mask goes on proving what it proved while nothing changes that it speaks of
kept-charge : (n : NetworkParts) (served discharge : ℕ → ℕ) (charge charge' : List ℕ) (k mask mask' : ℕ)
    → ((i : ℕ) → i ≤ k → get_or charge' i 0 ≡ get_or charge i 0)
    → mask' ≡ mask
    → ProvesCharge n served discharge (λ i. get_or charge i 0) k mask
    → ProvesCharge n served discharge (λ i. get_or charge' i 0) k mask'
kept-charge n served discharge charge charge' k mask mask' same is h =
    let P : ℕ → Type 0 = λ m. ProvesCharge n served discharge (λ i. get_or charge' i 0) k m in
    subst P (sym is)
    record {
      bound = λ none. same k (omega arith) ∙ h.bound none;
      member = h.member;
      used =
          λ some.
          omega (
            arith,
            h.used some,
            sum_where-same (λ i. inside mask (zone_of_device n.shape i)) (up_to (λ i. get_or charge i 0) k) (up_to (λ i. get_or charge' i 0) k) (device_count n.shape)
                (λ i below at.
                charged-up_to charge k i ∙ alike charge charge' k i same ∙ sym (charged-up_to charge' k i)),
          );
    }
  where
    alike : (charge charge' : List ℕ) (k i : ℕ)
        → ((j : ℕ) → j ≤ k → get_or charge' j 0 ≡ get_or charge j 0)
        → charged_before charge (k + 1) i ≡ charged_before charge' (k + 1) i
    alike charge charge' k i same =
        elim (cases_lt i (k + 1)) [
          | inl early ↦
              charged-early charge (k + 1) i early ∙ sym (same i (omega arith)) ∙ sym (charged-early charge' (k + 1) i early)
          | inr late ↦ charged-late charge (k + 1) i late ∙ sym (charged-late charge' (k + 1) i late)
        ]

-- before any device charges
pub charge-start : (n : NetworkParts) (f : FlowParts) (served discharge : ℕ → ℕ) (charge sets : List ℕ)
    → length charge ≡ device_count n.shape
    → length sets ≡ set_count n.shape
    → IsInBalance n f served discharge nothing
    → ((z : ℕ) → z < n.shape.zones → spare_at f z ≤ supply_at n z)
    → IsCharged n f served discharge charge sets 0
charge-start n f served discharge charge sets size sets_size h unused =
    record {
      size = size;
      sets_size = sets_size;
      balance =
          record {
            shape = h.shape;
            limits = h.limits;
            balance =
                λ z below.
                omega (
                  arith,
                  h.balance z below,
                  sum_where-same (λ i. zone_of_device n.shape i == z) nothing (charged_before charge 0) (device_count n.shape)
                      (λ i less at. sym (charged-late charge 0 i (omega arith))),
                );
          };
      within = λ i early. absurd (omega arith);
      proved = λ i early. absurd (omega arith);
      masks = λ i early. absurd (omega arith);
      unused = unused;
    }

-- one device more charges
pub charge-step : (n : NetworkParts) (old new : FlowParts) (served discharge : ℕ → ℕ) (charge charge' sets sets' : List ℕ) (k moved searched : ℕ)
    → IsShape n.shape
    → k < device_count n.shape
    → IsCharged n old served discharge charge sets k
    → IsPulled n old new (zone_of_device n.shape k) (charge_cap_at n k) moved searched
    → charge' ≡ slice_set charge k moved
    → sets' ≡ slice_set sets (n.shape.zones + device_count n.shape + k) searched
    → IsCharged n new served discharge charge' sets' (k + 1)
charge-step n old new served discharge charge charge' sets sets' k moved searched valid below before pulled is sets_is =
    let first : ℕ = n.shape.zones + device_count n.shape in
    let here : get_or charge' k 0 ≡ moved =
    ap (λ (xs : List ℕ). get_or xs k 0) is ∙ get_or-set_same charge k moved 0 (omega (arith, before.size)) in
    let others : (i : ℕ) → i ≢ k → get_or charge' i 0 ≡ get_or charge i 0 =
    λ i other. ap (λ (xs : List ℕ). get_or xs i 0) is ∙ get_or-set_other charge k i moved 0 other in
    let set_here : get_or sets' (n.shape.zones + device_count n.shape + k) 0 ≡ searched =
    ap (λ (xs : List ℕ). get_or xs (n.shape.zones + device_count n.shape + k) 0) sets_is
    ∙ get_or-set_same sets (n.shape.zones + device_count n.shape + k) searched 0 (omega (arith, before.sets_size)) in
    let set_others : (i : ℕ) → i ≢ k → get_or sets' (n.shape.zones + device_count n.shape + i) 0 ≡ get_or sets (n.shape.zones + device_count n.shape + i) 0 =
    λ i other.
    ap (λ (xs : List ℕ). get_or xs (n.shape.zones + device_count n.shape + i) 0) sets_is
    ∙ get_or-set_other sets (n.shape.zones + device_count n.shape + k) (n.shape.zones + device_count n.shape + i) searched 0 (λ e. other (omega arith)) in
    let same : (i : ℕ) → i ≢ k → charged_before charge k i ≡ charged_before charge' (k + 1) i =
    λ i other.
    elim (cases_lt i k) [
      | inl early ↦
          charged-early charge k i early ∙ sym (others i other) ∙ sym (charged-early charge' (k + 1) i (omega arith))
      | inr late ↦ charged-late charge k i late ∙ sym (charged-late charge' (k + 1) i (omega arith))
    ] in
    let charged : (z : ℕ) → over_devices n.shape (charged_before charge' (k + 1)) (λ w. w == z)
    ≡ over_devices n.shape (charged_before charge k) (λ w. w == z) + cond (zone_of_device n.shape k == z) moved 0 =
    λ z.
    let at : over_devices n.shape (charged_before charge k) (λ w. w == z) + cond (zone_of_device n.shape k == z) (charged_before charge' (k + 1) k) 0
    ≡ over_devices n.shape (charged_before charge' (k + 1)) (λ w. w == z) + cond (zone_of_device n.shape k == z) (charged_before charge k k) 0 =
    sum_where-at (λ i. zone_of_device n.shape i == z) (charged_before charge k) (charged_before charge' (k + 1)) (device_count n.shape) k below same in
    let none_here : charged_before charge k k ≡ 0 = charged-late charge k k (omega arith) in
    let all_here : charged_before charge' (k + 1) k ≡ moved = charged-early charge' (k + 1) k (omega arith) ∙ here in
    omega (
      arith,
      ap (λ (x : ℕ). cond (zone_of_device n.shape k == z) x 0) all_here,
      cond_none (zone_of_device n.shape k == z) (charged_before charge k k) none_here,
    ) in
    let balance : IsInBalance n new served discharge (charged_before charge' (k + 1)) =
    balance-moved n old new served served discharge discharge (charged_before charge k) (charged_before charge' (k + 1))
    (zone_of_device n.shape k) moved before.balance pulled.shape pulled.limits pulled.moves
    (λ z less. omega (arith, charged z)) in
    let row : ProvesCharge n served discharge (λ j. get_or charge' j 0) k searched =
    record {
      bound = λ none. here ∙ pulled-all n old new (zone_of_device n.shape k) (charge_cap_at n k) moved searched pulled none;
      member = λ some. (pulled-short n old new (zone_of_device n.shape k) (charge_cap_at n k) moved searched pulled some).itself;
      used =
          λ some.
          let spent : IsUsedUp n new (zone_of_device n.shape k) searched =
          pulled-short n old new (zone_of_device n.shape k) (charge_cap_at n k) moved searched pulled some in
          omega (
            arith,
            closed-used n new served discharge (charged_before charge' (k + 1)) (inside searched) valid balance spent.closed
                (λ z less at. spent.spare z at),
            sum_where-same (λ i. inside searched (zone_of_device n.shape i)) (up_to (λ j. get_or charge' j 0) k) (charged_before charge' (k + 1)) (device_count n.shape)
                (λ i less at. charged-up_to charge' k i),
          );
    } in
    record {
      size = ap length is ∙ length-set charge k moved ∙ before.size;
      sets_size = ap length sets_is ∙ length-set sets (n.shape.zones + device_count n.shape + k) searched ∙ before.sets_size;
      balance = balance;
      within =
          λ i early.
          elim (cases_eq i k) [
            | inl at ↦ subst (λ (j : ℕ). get_or charge' j 0 ≤ charge_cap_at n j) (sym at) (omega (arith, here, pulled.most))
            | inr other ↦ omega (arith, others i other, before.within i (omega arith))
          ];
      proved =
          λ i early.
          elim (cases_eq i k) [
            | inl at ↦
                subst (λ (j : ℕ). ProvesCharge n served discharge (λ v. get_or charge' v 0) j (get_or sets' (n.shape.zones + device_count n.shape + j) 0)) (sym at)
                (subst (λ (m : ℕ). ProvesCharge n served discharge (λ v. get_or charge' v 0) k m) (sym set_here) row)
            | inr other ↦
                kept-charge n served discharge charge charge' i (get_or sets (n.shape.zones + device_count n.shape + i) 0)
                (get_or sets' (n.shape.zones + device_count n.shape + i) 0) (λ j less. others j (omega arith)) (set_others i other)
                (before.proved i (omega arith))
          ];
      masks =
          λ i early.
          elim (cases_eq i k) [
            | inl at ↦
                subst (λ (j : ℕ). get_or sets' (n.shape.zones + device_count n.shape + j) 0 < 2 ^ n.shape.zones) (sym at)
                (omega (arith, set_here, pulled-mask n old new (zone_of_device n.shape k) (charge_cap_at n k) moved searched pulled))
            | inr other ↦ omega (arith, set_others i other, before.masks i (omega arith))
          ];
      unused = λ z less. omega (arith, before.unused z less, pulled.moves.fell z);
    }
  where
    cond_none : (b : Bool) (x : ℕ) → x ≡ 0 → cond b x 0 ≡ 0
    cond_none true x e = e
    cond_none false x e = refl
