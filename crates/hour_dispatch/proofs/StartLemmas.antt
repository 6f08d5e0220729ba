use Rattle.std.proofs.Common.{◌≡◌, ℕ, ℤ, pos, ◌+◌, ◌*◌, ◌<◌, ◌≤◌, ◌==◌, inl, inr, List, length, get_or, refl, ap, sym, ◌∙◌, subst, arith}
use Rattle.std.specs.Prelude.{slice_set}
use Rattle.std.proofs.lemmas.List.{get_or-set_same, get_or-set_other, length-set, length-replicate}
use Rattle.std.proofs.lemmas.List.Elements.{All-get_or}
use Rattle.ra_base.specs.declared.limits.TheConstants.{MOST_LINK_MW}
use Rattle.std.proofs.lemmas.Bool.{cases_eq, cond-true, cond-false, eq-eqb, ne_eqb}
use Rattle.zone_network.specs.Network.{NetworkParts, ShapeParts, IsNetwork, inflow, outflow, zone_of_device, link_count, device_count, forward_of, backward_of, from_zone, to_zone, supply_at, discharge_cap_at}
use Rattle.zone_network.proofs.SumLemmas.{sum_where-more, sum_where-zero, sum_where-none, sum_where-bound}
use Rattle.zone_network.specs.Sums.{sum_where}
use Rattle.transfer_flow.specs.Flow.{FlowParts, flow_at, spare_at, no_flow, IsWithinLimits}
use Rattle.transfer_flow.proofs.Laws.{flow_at_no_flow, no_flow_within}
use Rattle.hour_dispatch.specs.Balance.{IsInBalance}
use Rattle.hour_dispatch.specs.Stages.{nothing, IsUnused}

-- nothing flows, and the first so many zones have their supply to spare
pub record HasSupply (n : NetworkParts) (f : FlowParts) (count : ℕ) : Type 0 where
  pub shape : f.shape ≡ n.shape
  pub flows : f.flows ≡ (no_flow n.shape).flows
  pub size : length f.spares ≡ n.shape.zones
  pub spares : (z : ℕ) → z < count → spare_at f z ≡ supply_at n z

-- nothing flows, and each zone has its supply to spare and the caps of the first so many devices
pub record HasCaps (n : NetworkParts) (f : FlowParts) (count : ℕ) : Type 0 where
  pub shape : f.shape ≡ n.shape
  pub flows : f.flows ≡ (no_flow n.shape).flows
  pub size : length f.spares ≡ n.shape.zones
  pub spares : (z : ℕ) → z < n.shape.zones → spare_at f z ≡ supply_at n z + sum_where (λ i. zone_of_device n.shape i == z) (discharge_cap_at n) count

pub supply-more : (n : NetworkParts) (f f' : FlowParts) (zone supply : ℕ)
    → zone < n.shape.zones
    → HasSupply n f zone
    → supply ≡ supply_at n zone
    → f' ≡ record f { spares = slice_set f.spares zone supply }
    → HasSupply n f' (zone + 1)
supply-more n f f' zone supply below before value is =
    let among : zone < length f.spares = omega (arith, before.size) in
    record {
      shape = ap (λ (g : FlowParts). g.shape) is ∙ before.shape;
      flows = ap (λ (g : FlowParts). g.flows) is ∙ before.flows;
      size = ap (λ (g : FlowParts). length g.spares) is ∙ length-set f.spares zone supply ∙ before.size;
      spares =
          λ z less.
          elim (cases_eq z zone) [
            | inl here ↦
                ap (λ (g : FlowParts). spare_at g z) is
                ∙ ap (λ (w : ℕ). get_or (slice_set f.spares zone supply) w 0) here
                ∙ get_or-set_same f.spares zone supply 0 among ∙ value ∙ ap (supply_at n) (sym here)
            | inr other ↦
                ap (λ (g : FlowParts). spare_at g z) is ∙ get_or-set_other f.spares zone z supply 0 other
                ∙ before.spares z (omega arith)
          ];
    }

-- at first nothing flows
pub supply-start : (n : NetworkParts) (f : FlowParts) → f ≡ no_flow n.shape → HasSupply n f 0
supply-start n f is =
    record {
      shape = ap (λ (g : FlowParts). g.shape) is;
      flows = ap (λ (g : FlowParts). g.flows) is;
      size = ap (λ (g : FlowParts). length g.spares) is ∙ length-replicate n.shape.zones 0;
      spares = λ z below. absurd (omega arith);
    }

pub caps-start : (n : NetworkParts) (f : FlowParts) → HasSupply n f n.shape.zones → HasCaps n f 0
caps-start n f h =
    record {
      shape = h.shape;
      flows = h.flows;
      size = h.size;
      spares =
          λ z below.
          omega (arith, h.spares z below, sum_where-zero (λ i. zone_of_device n.shape i == z) (discharge_cap_at n));
    }

pub caps-more : (n : NetworkParts) (f f' : FlowParts) (k zone more : ℕ)
    → HasCaps n f k
    → zone < n.shape.zones
    → zone ≡ zone_of_device n.shape k
    → more ≡ spare_at f zone + discharge_cap_at n k
    → f' ≡ record f { spares = slice_set f.spares zone more }
    → HasCaps n f' (k + 1)
caps-more n f f' k zone more before below at value is =
    let among : zone < length f.spares = omega (arith, before.size) in
    record {
      shape = ap (λ (g : FlowParts). g.shape) is ∙ before.shape;
      flows = ap (λ (g : FlowParts). g.flows) is ∙ before.flows;
      size = ap (λ (g : FlowParts). length g.spares) is ∙ length-set f.spares zone more ∙ before.size;
      spares =
          λ z less.
          elim (cases_eq z zone) [
            | inl here ↦
                omega (
                  arith,
                  ap (λ (g : FlowParts). spare_at g z) is
                      ∙ ap (λ (w : ℕ). get_or (slice_set f.spares zone more) w 0) here
                      ∙ get_or-set_same f.spares zone more 0 among ∙ value ∙ ap (λ (w : ℕ). spare_at f w + discharge_cap_at n k) (sym here),
                  before.spares z less,
                  sum_where-more (λ i. zone_of_device n.shape i == z) (discharge_cap_at n) k,
                  cond-true (zone_of_device n.shape k == z) (discharge_cap_at n k) 0 (eq-eqb (zone_of_device n.shape k) z (sym at ∙ sym here)),
                )
            | inr other ↦
                omega (
                  arith,
                  ap (λ (g : FlowParts). spare_at g z) is ∙ get_or-set_other f.spares zone z more 0 other,
                  before.spares z less,
                  sum_where-more (λ i. zone_of_device n.shape i == z) (discharge_cap_at n) k,
                  cond-false (zone_of_device n.shape k == z) (discharge_cap_at n k) 0 (ne_eqb (zone_of_device n.shape k) z (λ e. other (sym e ∙ sym at))),
                )
          ];
    }

-- no more than the supply and all caps
pub caps-most : (n : NetworkParts) (f : FlowParts) (k z : ℕ)
    → IsNetwork n
    → HasCaps n f k
    → k < device_count n.shape
    → z < n.shape.zones
    → spare_at f z ≤ MOST_LINK_MW + MOST_LINK_MW * 128
caps-most n f k z valid h below among =
    let supply : supply_at n z ≤ MOST_LINK_MW =
    All-get_or (λ mw. mw ≤ MOST_LINK_MW) n.supplies z 0 (omega (arith, valid.supplies.size)) valid.supplies.most in
    let caps : sum_where (λ i. zone_of_device n.shape i == z) (discharge_cap_at n) k ≤ MOST_LINK_MW * k =
    sum_where-bound (λ i. zone_of_device n.shape i == z) (discharge_cap_at n) k MOST_LINK_MW
    (λ i less. All-get_or (λ mw. mw ≤ MOST_LINK_MW) n.discharge_caps i 0 (omega (arith, valid.discharge_caps.size)) valid.discharge_caps.most) in
    omega (arith, h.spares z among, valid.shape.devices)

-- where nothing flows nothing comes in and nothing goes out
pub still-in : (s : ShapeParts) (flow : ℕ → ℤ) (z : ℕ) → ((l : ℕ) → flow l ≡ pos 0) → inflow s flow z ≡ 0
still-in s flow z none =
    omega (
      arith,
      sum_where-none (λ l. to_zone s l == z) (λ l. forward_of (flow l)) (link_count s) (λ l below at. ap forward_of (none l)),
      sum_where-none (λ l. from_zone s l == z) (λ l. backward_of (flow l)) (link_count s) (λ l below at. ap backward_of (none l)),
    )

pub still-out : (s : ShapeParts) (flow : ℕ → ℤ) (z : ℕ) → ((l : ℕ) → flow l ≡ pos 0) → outflow s flow z ≡ 0
still-out s flow z none =
    omega (
      arith,
      sum_where-none (λ l. from_zone s l == z) (λ l. forward_of (flow l)) (link_count s) (λ l below at. ap forward_of (none l)),
      sum_where-none (λ l. to_zone s l == z) (λ l. backward_of (flow l)) (link_count s) (λ l below at. ap backward_of (none l)),
    )

pub start-balance : (n : NetworkParts) (f : FlowParts) → HasCaps n f (device_count n.shape) → IsInBalance n f nothing (discharge_cap_at n) nothing
start-balance n f h =
    let none : (l : ℕ) → flow_at f l ≡ pos 0 =
    λ l. ap (λ (flows : List ℤ). get_or flows l (pos 0)) h.flows ∙ flow_at_no_flow n.shape l in
    record {
      shape = h.shape;
      limits =
          let P : List ℤ → Type 0 = λ flows. IsWithinLimits n (record f { flows = flows }) in
          let within : IsWithinLimits n (record f { flows = (no_flow n.shape).flows }) = record { ways = (no_flow_within n n.shape).ways } in
          let mine : IsWithinLimits n (record f { flows = f.flows }) = subst P (sym h.flows) within in
          record { ways = mine.ways };
      balance =
          λ z below.
          omega (
            arith,
            h.spares z below,
            still-in n.shape (flow_at f) z none,
            still-out n.shape (flow_at f) z none,
            sum_where-none (λ i. zone_of_device n.shape i == z) nothing (device_count n.shape) (λ i less at. refl),
          );
    }

pub start-unused : (n : NetworkParts) (f : FlowParts) → HasCaps n f (device_count n.shape) → IsUnused n f (discharge_cap_at n)
start-unused n f h = record { most = λ z below. omega (arith, h.spares z below) }
