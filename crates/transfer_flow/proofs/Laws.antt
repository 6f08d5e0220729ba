use Rattle.std.proofs.Common.{◌≡◌, ℕ, ℤ, pos, ◌<◌, inl, inr, Bool, true, false, not, replicate, refl, ap, sym, ◌∙◌, arith}
use Rattle.std.specs.Prelude.{IsTrue}
use Rattle.std.proofs.lemmas.List.{get_or-replicate, get_or_past, length-replicate}
use Rattle.std.proofs.lemmas.Bool.{cases_lt, cases_Bool, not-true, not_from_false, false≢true}
use Rattle.zone_network.specs.Sums.{NumberSet}
use Rattle.zone_network.specs.Network.{ShapeParts, NetworkParts, link_count, from_zone, to_zone}
use Rattle.zone_network.proofs.FlowLemmas.{AreFull}
use Rattle.transfer_flow.specs.Flow.{FlowParts, flow_at, no_flow, carried, limit_at, IsWithinLimits}
use Rattle.transfer_flow.specs.Reach.{room, way, start_of, end_of, IsClosed}

-- where nothing flows each link's flow is 0
pub flow_at_no_flow : (s : ShapeParts) (l : ℕ) → flow_at (no_flow s) l ≡ pos 0
flow_at_no_flow s l =
    elim (cases_lt l (link_count s)) [
      | inl below ↦ get_or-replicate (link_count s) l (pos 0) (pos 0) below
      | inr past ↦
          get_or_past (replicate (link_count s) (pos 0)) l (pos 0)
          (omega (arith, length-replicate (link_count s) (pos 0)))
    ]

-- where nothing flows every limit is kept
pub no_flow_within : (n : NetworkParts) (s : ShapeParts) → IsWithinLimits n (no_flow s)
no_flow_within n s =
    record { ways = λ l forward below. omega (arith, ap (λ (flow : ℤ). carried flow forward) (flow_at_no_flow s l), nothing forward) }
  where
    nothing : (forward : Bool) → carried (pos 0) forward ≡ 0
    nothing true = refl
    nothing false = refl

-- a way that enters a set, which no link with room enters, is full
closed-way : (n : NetworkParts) (f : FlowParts) (zones : NumberSet)
    → IsWithinLimits n f
    → IsClosed n f true zones
    → (l : ℕ) (forward : Bool)
    → l < link_count n.shape
    → zones (start_of n.shape l forward) ≡ false
    → zones (end_of n.shape l forward) ≡ true
    → (carried (flow_at f l) forward ≡ limit_at n l forward) × (carried (flow_at f l) (not forward) ≡ 0)
closed-way n f zones limits closed l forward below outside within =
    elim (cases_lt 0 (room n f l forward)) [
      | inl open' ↦ absurd (false≢true (sym outside ∙ closed.through l forward below open' within))
      | inr full ↦ (omega (arith, limits.ways l forward below), omega arith)
    ]

-- so its links are full
pub closed-full : (n : NetworkParts) (f : FlowParts) (zones : NumberSet)
    → IsWithinLimits n f
    → IsClosed n f true zones
    → AreFull n (flow_at f) zones
closed-full n f zones limits closed =
    record {
      enters = λ l below p q. closed-way n f zones limits closed l true below p q;
      leaves = λ l below p q. closed-way n f zones limits closed l false below q p;
    }

-- and conversely
pub full-closed : (n : NetworkParts) (f : FlowParts) (zones : NumberSet) → AreFull n (flow_at f) zones → IsClosed n f true zones
full-closed n f zones full = record { through = through n f zones full }
  where
    through : (n : NetworkParts) (f : FlowParts) (zones : NumberSet)
        → AreFull n (flow_at f) zones
        → (l : ℕ) (forward : Bool)
        → l < link_count n.shape
        → 0 < room n f l (way true forward)
        → IsTrue (zones (end_of n.shape l forward))
        → IsTrue (zones (start_of n.shape l forward))
    through n f zones full l true below room' at =
        elim (cases_Bool (zones (from_zone n.shape l))) [
          | inl within ↦ within
          | inr outside ↦ absurd (omega (arith, (full.enters l below outside at).0, (full.enters l below outside at).1))
        ]
    through n f zones full l false below room' at =
        elim (cases_Bool (zones (to_zone n.shape l))) [
          | inl within ↦ within
          | inr outside ↦ absurd (omega (arith, (full.leaves l below at outside).0, (full.leaves l below at outside).1))
        ]

-- what lies outside a set that no link with room leaves is a set that no link with room enters, and conversely
pub closed-outside : (n : NetworkParts) (f : FlowParts) (towards : Bool) (zones : NumberSet)
    → IsClosed n f towards zones
    → IsClosed n f (not towards) (λ z. not (zones z))
closed-outside n f towards zones closed = record { through = through n f towards zones closed }
  where
    through : (n : NetworkParts) (f : FlowParts) (towards : Bool) (zones : NumberSet)
        → IsClosed n f towards zones
        → (l : ℕ) (forward : Bool)
        → l < link_count n.shape
        → 0 < room n f l (way (not towards) forward)
        → IsTrue (not (zones (end_of n.shape l forward)))
        → IsTrue (not (zones (start_of n.shape l forward)))
    through n f towards zones closed l forward below room' outside =
        elim (cases_Bool (zones (start_of n.shape l forward))) [
          | inl within ↦
              absurd (false≢true (sym (not-true (zones (end_of n.shape l forward)) outside) ∙ back_in n f towards zones closed l forward below room' within))
          | inr apart ↦ not_from_false (zones (start_of n.shape l forward)) apart
        ]
      where
        back_in : (n : NetworkParts) (f : FlowParts) (towards : Bool) (zones : NumberSet)
            → IsClosed n f towards zones
            → (l : ℕ) (forward : Bool)
            → l < link_count n.shape
            → 0 < room n f l (way (not towards) forward)
            → IsTrue (zones (start_of n.shape l forward))
            → IsTrue (zones (end_of n.shape l forward))
        back_in n f true zones closed l true below room' h = closed.through l false below room' h
        back_in n f true zones closed l false below room' h = closed.through l true below room' h
        back_in n f false zones closed l true below room' h = closed.through l false below room' h
        back_in n f false zones closed l false below room' h = closed.through l true below room' h
