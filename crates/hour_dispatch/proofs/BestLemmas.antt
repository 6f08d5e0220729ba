use Rattle.std.proofs.Common.{◌≡◌, ℕ, ◌+◌, ◌-◌, ◌<◌, ◌^◌, ◌==◌, inl, inr, true, false, List, length, get_or, ap, sym, ◌∙◌, subst, arith}
use Rattle.std.proofs.lemmas.Bool.{cases_lt}
use Rattle.std.proofs.lemmas.List.Elements.{All-from_get_or}
use Rattle.zone_network.specs.Network.{NetworkParts, IsShape, inflow, outflow, zone_of_device, link_count, device_count, from_zone, to_zone, forward_of, backward_of}
use Rattle.zone_network.proofs.SumLemmas.{sum_where-same}
use Rattle.transfer_flow.specs.Flow.{FlowParts, flow_at}
use Rattle.sample_totals.specs.declared.outcomes.HourOutcome.{HourOutcome}
use Rattle.cut_certificate.specs.declared.chains.Chain.{Chain}
use Rattle.cut_certificate.proofs.BestLemmas.{chain_is_best_outcome}
use Rattle.cut_certificate.proofs.UniqueLemmas.{only_best}
use Rattle.cut_certificate.specs.Chain.{Fit, IsAccepted, IsFeasibleBy, IsOnlyBestOutcome, IsProvedBy, ProvesUnserved, ProvesDischarge, served_but, served_in, unserved_in, discharge_in, flow_in}
use Rattle.hour_dispatch.specs.Stages.{IsServed, IsSpared, IsCharged, IsShown, Keeps, charged_before}
use Rattle.hour_dispatch.proofs.OrderLemmas.{served-all}
use Rattle.hour_dispatch.proofs.ChargeLemmas.{charged-early}

-- what stands after the last stage
pub record IsDispatched (n : NetworkParts) (f : FlowParts) (outcome : HourOutcome) (chain : Chain) : Type 0 where
  pub energy : length outcome.energy ≡ device_count n.shape
  pub served : (g : FlowParts) × (sets : List ℕ) × IsServed n g outcome.unserved sets n.shape.zones × Keeps n.shape.zones sets chain.sets
  pub spared : (g : FlowParts) × (sets : List ℕ) × IsSpared n g (served_in n outcome) outcome.discharge sets 0 × Keeps (n.shape.zones + device_count n.shape) sets chain.sets
  pub charged : IsCharged n f (served_in n outcome) (discharge_in outcome) outcome.charge chain.sets (device_count n.shape)
  pub shown : IsShown n f chain

-- the flows in the chain bring and take what the flow does
shown-in : (n : NetworkParts) (f : FlowParts) (chain : Chain) (z : ℕ)
    → IsShown n f chain
    → inflow n.shape (flow_in chain) z ≡ inflow n.shape (flow_at f) z
shown-in n f chain z h =
    omega (
      arith,
      sum_where-same (λ l. to_zone n.shape l == z) (λ l. forward_of (flow_in chain l)) (λ l. forward_of (flow_at f l)) (link_count n.shape)
          (λ l below at. ap forward_of (h.flows l below)),
      sum_where-same (λ l. from_zone n.shape l == z) (λ l. backward_of (flow_in chain l)) (λ l. backward_of (flow_at f l)) (link_count n.shape)
          (λ l below at. ap backward_of (h.flows l below)),
    )

shown-out : (n : NetworkParts) (f : FlowParts) (chain : Chain) (z : ℕ)
    → IsShown n f chain
    → outflow n.shape (flow_in chain) z ≡ outflow n.shape (flow_at f) z
shown-out n f chain z h =
    omega (
      arith,
      sum_where-same (λ l. from_zone n.shape l == z) (λ l. forward_of (flow_in chain l)) (λ l. forward_of (flow_at f l)) (link_count n.shape)
          (λ l below at. ap forward_of (h.flows l below)),
      sum_where-same (λ l. to_zone n.shape l == z) (λ l. backward_of (flow_in chain l)) (λ l. backward_of (flow_at f l)) (link_count n.shape)
          (λ l below at. ap backward_of (h.flows l below)),
    )

pub dispatched-fits : (n : NetworkParts) (f : FlowParts) (outcome : HourOutcome) (chain : Chain)
    → IsDispatched n f outcome chain
    → Fit n outcome chain
dispatched-fits n f outcome chain h =
    record {
      sizes =
          record {
            unserved = h.served.2.size;
            discharge = h.spared.2.size;
            charge = h.charged.size;
            energy = h.energy;
            flows = h.shown.flows_size;
            generation = h.shown.generation_size;
            sets = h.charged.sets_size;
          };
      masks =
          All-from_get_or (λ mask. mask < 2 ^ n.shape.zones) chain.sets 0
          (λ i below.
          elim (cases_lt i n.shape.zones) [
            | inl zone ↦ omega (arith, h.served.3.same i zone, h.served.2.masks i (served-all n.shape i zone))
            | inr past ↦
                elim (cases_lt i (n.shape.zones + device_count n.shape)) [
                  | inl device ↦
                      let place : n.shape.zones + (i - n.shape.zones) ≡ i = omega arith in
                      let mask : get_or h.spared.1 i 0 < 2 ^ n.shape.zones =
                      subst (λ (j : ℕ). get_or h.spared.1 j 0 < 2 ^ n.shape.zones) place
                      (h.spared.2.masks (i - n.shape.zones) (omega arith) (omega arith)) in
                      omega (arith, h.spared.3.same i device)
                  | inr charge ↦
                      let place : n.shape.zones + device_count n.shape + (i - (n.shape.zones + device_count n.shape)) ≡ i = omega arith in
                      subst (λ (j : ℕ). get_or chain.sets j 0 < 2 ^ n.shape.zones) place
                      (h.charged.masks (i - (n.shape.zones + device_count n.shape)) (omega (arith, h.charged.sets_size)))
                ]
          ]);
    }

pub dispatched-feasible : (n : NetworkParts) (f : FlowParts) (outcome : HourOutcome) (chain : Chain)
    → IsDispatched n f outcome chain
    → IsFeasibleBy n outcome chain
dispatched-feasible n f outcome chain h =
    record {
      within = λ z below. h.served.2.within z (served-all n.shape z below);
      feasible =
          record {
            generation = λ z below. omega (arith, h.shown.generation z below);
            served = λ z below. omega arith;
            discharge = λ k below. h.spared.2.within k (omega arith) below;
            charge = λ k below. h.charged.within k below;
            forward = λ l below. omega (arith, ap forward_of (h.shown.flows l below), h.charged.balance.limits.ways l true below);
            backward = λ l below. omega (arith, ap backward_of (h.shown.flows l below), h.charged.balance.limits.ways l false below);
            balance =
                λ z below.
                omega (
                  arith,
                  h.shown.generation z below,
                  h.charged.unused z below,
                  h.charged.balance.balance z below,
                  shown-in n f chain z h.shown,
                  shown-out n f chain z h.shown,
                  sum_where-same (λ k. zone_of_device n.shape k == z) (charged_before outcome.charge (device_count n.shape)) (λ k. get_or outcome.charge k 0) (device_count n.shape)
                      (λ k less at. charged-early outcome.charge (device_count n.shape) k less),
                );
          };
    }

pub dispatched-proved : (n : NetworkParts) (f : FlowParts) (outcome : HourOutcome) (chain : Chain)
    → IsDispatched n f outcome chain
    → IsProvedBy n outcome chain
dispatched-proved n f outcome chain h =
    record {
      unserved =
          λ z below.
          subst (λ (m : ℕ). ProvesUnserved n (served_in n outcome) (unserved_in outcome) z m) (sym (h.served.3.same z below))
          (h.served.2.proved z (served-all n.shape z below));
      discharge =
          λ k below.
          subst (λ (m : ℕ). ProvesDischarge n (served_in n outcome) (discharge_in outcome) k m)
          (sym (h.spared.3.same (n.shape.zones + k) (omega arith)))
          (h.spared.2.proved k (omega arith) below);
      charge = λ k below. h.charged.proved k below;
    }

-- what the stages have left, one after another
pub dispatched : (n : NetworkParts) (f1 f2 f3 : FlowParts) (o1 o2 o3 : HourOutcome) (chain : Chain) (sets1 sets2 sets3 : List ℕ)
    → length o1.energy ≡ device_count n.shape
    → IsServed n f1 o1.unserved sets1 n.shape.zones
    → o2 ≡ record o1 { discharge = o2.discharge }
    → IsSpared n f2 (served_in n o2) o2.discharge sets2 0
    → Keeps n.shape.zones sets1 sets2
    → o3 ≡ record o2 { charge = o3.charge }
    → IsCharged n f3 (served_in n o3) (discharge_in o3) o3.charge sets3 (device_count n.shape)
    → Keeps (n.shape.zones + device_count n.shape) sets2 sets3
    → IsShown n f3 chain
    → chain.sets ≡ sets3
    → IsDispatched n f3 o3 chain
dispatched n f1 f2 f3 o1 o2 o3 chain sets1 sets2 sets3 energy served stays spared kept stays' charged kept' shown sets =
    let unserved' : o2.unserved ≡ o3.unserved = sym (ap (λ (o : HourOutcome). o.unserved) stays') in
    let unserved : o1.unserved ≡ o3.unserved = sym (ap (λ (o : HourOutcome). o.unserved) stays) ∙ unserved' in
    let discharge : o2.discharge ≡ o3.discharge = sym (ap (λ (o : HourOutcome). o.discharge) stays') in
    let at : (i : ℕ) → get_or chain.sets i 0 ≡ get_or sets3 i 0 = λ i. ap (λ (xs : List ℕ). get_or xs i 0) sets in
    let spared' : IsSpared n f2 (served_but n o2.unserved) o3.discharge sets2 0 =
    subst (λ (d : List ℕ). IsSpared n f2 (served_but n o2.unserved) d sets2 0) discharge spared in
    record {
      energy =
          ap (λ (o : HourOutcome). length o.energy) stays' ∙ ap (λ (o : HourOutcome). length o.energy) stays ∙ energy;
      served =
          (f1, sets1, subst (λ (u : List ℕ). IsServed n f1 u sets1 n.shape.zones) unserved served, record { same = λ i below. at i ∙ kept'.same i (omega arith) ∙ kept.same i below });
      spared =
          (f2, sets2, subst (λ (u : List ℕ). IsSpared n f2 (served_but n u) o3.discharge sets2 0) unserved' spared', record { same = λ i below. at i ∙ kept'.same i below });
      charged =
          subst (λ (xs : List ℕ). IsCharged n f3 (served_in n o3) (discharge_in o3) o3.charge xs (device_count n.shape)) (sym sets) charged;
      shown = shown;
    }

-- an outcome whose chain is accepted is the only best
pub accepted-best : (n : NetworkParts) (outcome : HourOutcome) (chain : Chain) → IsShape n.shape → IsAccepted n outcome chain → IsOnlyBestOutcome n outcome
accepted-best n outcome chain valid accepted =
    only_best n outcome (chain_is_best_outcome n outcome chain valid accepted.0 accepted.1)
