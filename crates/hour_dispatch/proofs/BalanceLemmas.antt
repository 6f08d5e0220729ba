use Rattle.std.proofs.Common.{◌≡◌, ℕ, ◌+◌, ◌<◌, ◌≤◌, ◌==◌, inl, inr, true, false, not, cond, sym, ◌∙◌, subst, arith}
use Rattle.std.specs.Prelude.{IsTrue}
use Rattle.std.proofs.lemmas.Bool.{cases_eq, cases_Bool, cond-true, cond-false, eq-eqb, ne_eqb, false≢true, not_from_false, not-true}
use Rattle.zone_network.specs.Sums.{NumberSet, inside}
use Rattle.zone_network.specs.Network.{NetworkParts, IsShape, inflow, outflow, into, over_zones, over_devices, supply_at}
use Rattle.zone_network.specs.Cut.{supply_of}
use Rattle.zone_network.proofs.SumLemmas.{sum_where-add, sum_where-none, sum_where-term}
use Rattle.zone_network.proofs.FlowLemmas.{links_cross, links_cross-full, links_cross-forced, balance_over}
use Rattle.transfer_flow.specs.Flow.{FlowParts, flow_at, spare_at, IsWithinLimits, Moves}
use Rattle.transfer_flow.specs.Reach.{IsClosed, IsReachFrom}
use Rattle.transfer_flow.proofs.Laws.{closed-full, full-closed, closed-outside}
use Rattle.hour_dispatch.specs.Balance.{IsInBalance}

-- what came to a zone is served there, charged there, or takes the place of what devices gave there
pub balance-moved : (n : NetworkParts) (old new : FlowParts) (served served' given given' charge charge' : ℕ → ℕ) (goal moved : ℕ)
    → IsInBalance n old served given charge
    → new.shape ≡ n.shape
    → IsWithinLimits n new
    → Moves n.shape old new goal moved
    → ((z : ℕ) → z < n.shape.zones → over_devices n.shape given (λ w. w == z) + served' z + over_devices n.shape charge' (λ w. w == z) ≡ over_devices n.shape given' (λ w. w == z) + served z + over_devices n.shape charge (λ w. w == z) + cond (goal == z) moved 0)
    → IsInBalance n new served' given' charge'
balance-moved n old new served served' given given' charge charge' goal moved before shape limits move changed =
    record {
      shape = shape;
      limits = limits;
      balance =
          λ z below.
          elim (cases_eq goal z) [
            | inl here ↦
                let arrives : inflow n.shape (flow_at new) z + outflow n.shape (flow_at old) z + spare_at old z
                ≡ inflow n.shape (flow_at old) z + outflow n.shape (flow_at new) z + moved + spare_at new z =
                subst (λ (w : ℕ). inflow n.shape (flow_at new) w + outflow n.shape (flow_at old) w + spare_at old w ≡ inflow n.shape (flow_at old) w + outflow n.shape (flow_at new) w + moved + spare_at new w) here move.arrives in
                omega (arith, before.balance z below, changed z below, cond-true (goal == z) moved 0 (eq-eqb goal z here))
            | inr other ↦
                omega (
                  arith,
                  before.balance z below,
                  changed z below,
                  move.others z (λ e. other (sym e)),
                  cond-false (goal == z) moved 0 (ne_eqb goal z other),
                )
          ];
    }

-- the balance of a set of zones
balance_in : (n : NetworkParts) (f : FlowParts) (served given charge : ℕ → ℕ) (zones : NumberSet)
    → IsShape n.shape
    → IsInBalance n f served given charge
    → supply_of n zones + over_devices n.shape given zones + over_zones n.shape (inflow n.shape (flow_at f)) zones
    ≡ over_zones n.shape served zones + over_zones n.shape (spare_at f) zones + over_devices n.shape charge zones
    + over_zones n.shape (outflow n.shape (flow_at f)) zones
balance_in n f served given charge zones valid h =
    omega (
      arith,
      balance_over n.shape (supply_at n) given (λ z. served z + spare_at f z) charge (flow_at f) zones valid h.balance,
      sum_where-add zones served (spare_at f) n.shape.zones,
    )

-- where no link with room enters a set and it has nothing to spare, all that there is in it is used
pub closed-used : (n : NetworkParts) (f : FlowParts) (served given charge : ℕ → ℕ) (zones : NumberSet)
    → IsShape n.shape
    → IsInBalance n f served given charge
    → IsClosed n f true zones
    → ((z : ℕ) → z < n.shape.zones → IsTrue (zones z) → spare_at f z ≡ 0)
    → over_zones n.shape served zones + over_devices n.shape charge zones
    ≡ supply_of n zones + over_devices n.shape given zones + into n zones
closed-used n f served given charge zones valid h closed spare =
    omega (
      arith,
      balance_in n f served given charge zones valid h,
      links_cross-full n (flow_at f) zones valid (closed-full n f zones h.limits closed),
      sum_where-none zones (spare_at f) n.shape.zones spare,
    )

-- a set in which all that there is is used up
pub record IsSpent (n : NetworkParts) (f : FlowParts) (zones : NumberSet) : Type 0 where
  pub closed : IsClosed n f true zones
  pub spare : (z : ℕ) → z < n.shape.zones → IsTrue (zones z) → spare_at f z ≡ 0

-- and conversely
pub used-closed : (n : NetworkParts) (f : FlowParts) (served given charge : ℕ → ℕ) (zones : NumberSet)
    → IsShape n.shape
    → IsInBalance n f served given charge
    → supply_of n zones + over_devices n.shape given zones + into n zones
    ≤ over_zones n.shape served zones + over_devices n.shape charge zones
    → IsSpent n f zones
used-closed n f served given charge zones valid h most =
    let crossing : over_zones n.shape (inflow n.shape (flow_at f)) zones
    ≤ over_zones n.shape (outflow n.shape (flow_at f)) zones + into n zones =
    links_cross n (flow_at f) zones valid (λ l below. h.limits.ways l true below) (λ l below. h.limits.ways l false below) in
    let all : supply_of n zones + over_devices n.shape given zones + over_zones n.shape (inflow n.shape (flow_at f)) zones
    ≡ over_zones n.shape served zones + over_zones n.shape (spare_at f) zones + over_devices n.shape charge zones
    + over_zones n.shape (outflow n.shape (flow_at f)) zones =
    balance_in n f served given charge zones valid h in
    record {
      closed =
          full-closed n f zones
          (links_cross-forced n (flow_at f) zones valid (λ l below. h.limits.ways l true below) (λ l below. h.limits.ways l false below) (omega arith));
      spare =
          λ z below at.
          let term : spare_at f z ≤ over_zones n.shape (spare_at f) zones = sum_where-term zones (spare_at f) n.shape.zones z below at in
          omega arith;
    }

-- what spares reach misses such a set
pub spent-missed : (n : NetworkParts) (f : FlowParts) (start reached : ℕ) (zones : NumberSet)
    → ((z : ℕ) → IsTrue (inside start z) → (z < n.shape.zones) × (0 < spare_at f z))
    → IsReachFrom n f start reached
    → IsSpent n f zones
    → (z : ℕ)
    → IsTrue (zones z)
    → inside reached z ≡ false
spent-missed n f start reached zones from reach spent z at =
    let outside : IsClosed n f false (λ w. not (zones w)) = closed-outside n f true zones spent.closed in
    elim (cases_Bool (inside reached z)) [
      | inl there ↦
          let missed : IsTrue (not (zones z)) =
          reach.least (λ w. not (zones w)) outside
          (λ w h.
          elim (cases_Bool (zones w)) [
            | inl within ↦ absurd (omega (arith, (from w h).1, spent.spare w (from w h).0 within))
            | inr apart ↦ not_from_false (zones w) apart
          ])
          z there in
          absurd (false≢true (sym (not-true (zones z) missed) ∙ at))
      | inr missed ↦ missed
    ]
