use Rattle.std.proofs.Common.{◌≡◌, ℕ, ◌<◌, ◌≤◌, ◌&&◌, inl, inr, Bool, true, false, refl, arith, nat_le, ltb, leb}
use Rattle.std.proofs.lemmas.Bool.{cases_eq, cases_lt, cond-true, cond-false}
use Rattle.std.proofs.lemmas.Bool.Decides.{nat_tests}
use Rattle.zone_network.specs.Sums.{NumberSet, inside, sum_where}
use Rattle.zone_network.specs.Network.{NetworkParts, IsShape, over_zones, over_devices, zone_of_device, device_count, supply_at, discharge_cap_at}
use Rattle.zone_network.specs.Dispatch.{Dispatch, IsFeasible, not_after, unserved_at, uncharged_at}
use Rattle.zone_network.specs.Cut.{supply_of}
use Rattle.zone_network.proofs.SumLemmas.{sum_where-same, sum_where-mono, sum_where-part, sum_where-forces}
use Rattle.zone_network.proofs.FlowLemmas.{served_within, served_within_caps}
use Rattle.cut_certificate.specs.Chain.{with_caps_before, up_to, ProvesUnserved, ProvesDischarge, ProvesCharge}

-- where two feasible dispatches leave the same of a zone unserved, they serve the same
served_same : (n : NetworkParts) (d other : Dispatch) (z : ℕ)
    → IsFeasible n d
    → IsFeasible n other
    → z < n.shape.zones
    → unserved_at n other z ≡ unserved_at n d z
    → other.served z ≡ d.served z
served_same n d other z feasible feasible' below same =
    omega (arith, feasible.served z below, feasible'.served z below)

-- a mask that proves a zone's unserved load: no feasible dispatch that serves the earlier zones alike serves it more
pub unserved_is_least : (n : NetworkParts) (d other : Dispatch) (z mask : ℕ)
    → IsShape n.shape
    → IsFeasible n d
    → IsFeasible n other
    → z < n.shape.zones
    → ProvesUnserved n d.served (unserved_at n d) z mask
    → ((j : ℕ) → j < z → unserved_at n other j ≡ unserved_at n d j)
    → unserved_at n d z ≤ unserved_at n other z
unserved_is_least n d other z mask valid feasible feasible' below proves before =
    elim (cases_eq mask 0) [
      | inl none ↦ omega (arith, proves.bound none)
      | inr some ↦
          let set : NumberSet = λ j. inside mask j && not_after n.shape z j in
          let part : sum_where set other.served n.shape.zones ≤ over_zones n.shape other.served (inside mask) =
          sum_where-part set (inside mask) other.served n.shape.zones (λ j less in'. both_first (inside mask j) (not_after n.shape z j) in') in
          let less : sum_where set other.served n.shape.zones ≤ sum_where set d.served n.shape.zones =
          omega (arith, proves.used some, served_within_caps n other (inside mask) valid feasible') in
          let here : other.served z ≤ d.served z =
          sum_where-forces set other.served d.served n.shape.zones z below
          (both (inside mask z) (not_after n.shape z z) (proves.member some) (grind (arith, nat_tests)))
          (λ j less apart in'.
          let early : j ≤ z = le_from (both_second (inside mask j) (not_after n.shape z j) in') in
          omega (arith, served_same n d other j feasible feasible' less (before j (omega arith))))
          less in
          omega arith
    ]
  where
    both : (a b : Bool) → a ≡ true → b ≡ true → (a && b) ≡ true
    both a b p q = grind arith

    both_first : (a b : Bool) → (a && b) ≡ true → a ≡ true
    both_first true b e = refl
    both_first false b e = e

    both_second : (a b : Bool) → (a && b) ≡ true → b ≡ true
    both_second true b e = e
    both_second false b e = absurd (cc)

    le_from : {j z : ℕ} → nat_le j z ≡ true → j ≤ z
    le_from e = grind (arith, nat_tests)

-- a mask that proves a device's discharge: no feasible dispatch that serves all zones and uses the later devices
-- alike discharges it less
pub discharge_is_least : (n : NetworkParts) (d other : Dispatch) (k mask : ℕ)
    → IsShape n.shape
    → IsFeasible n d
    → IsFeasible n other
    → k < device_count n.shape
    → ProvesDischarge n d.served d.discharge k mask
    → ((z : ℕ) → z < n.shape.zones → unserved_at n other z ≡ unserved_at n d z)
    → ((i : ℕ) → k < i → i < device_count n.shape → other.discharge i ≡ d.discharge i)
    → d.discharge k ≤ other.discharge k
discharge_is_least n d other k mask valid feasible feasible' below proves served after =
    elim (cases_eq mask 0) [
      | inl none ↦ omega (arith, proves.bound none)
      | inr some ↦
          let used : ℕ → ℕ = with_caps_before n d.discharge k in
          let alike : over_zones n.shape other.served (inside mask) ≡ over_zones n.shape d.served (inside mask) =
          sum_where-same (inside mask) other.served d.served n.shape.zones
          (λ z less in'. served_same n d other z feasible feasible' less (served z less)) in
          let made : over_zones n.shape other.generation (inside mask) ≤ supply_of n (inside mask) =
          sum_where-mono (inside mask) other.generation (supply_at n) n.shape.zones (λ z less in'. feasible'.generation z less) in
          let less : over_devices n.shape used (inside mask) ≤ over_devices n.shape other.discharge (inside mask) =
          omega (arith, proves.used some, served_within n other (inside mask) valid feasible') in
          let here : used k ≤ other.discharge k =
          sum_where-forces (λ i. inside mask (zone_of_device n.shape i)) used other.discharge (device_count n.shape) k below
          (proves.member some)
          (λ i less apart in'.
          elim (cases_lt i k) [
            | inl early ↦ omega (arith, cond-true (ltb i k) (discharge_cap_at n i) (d.discharge i) (is_before early), feasible'.discharge i less)
            | inr late ↦ omega (arith, cond-false (ltb i k) (discharge_cap_at n i) (d.discharge i) (isnt_before late), after i (omega arith) less)
          ])
          less in
          omega (arith, cond-false (ltb k k) (discharge_cap_at n k) (d.discharge k) (isnt_before (omega arith)))
    ]
  where
    is_before : {i k : ℕ} → i < k → ltb i k ≡ true
    is_before h = grind (arith, nat_tests)

    isnt_before : {i k : ℕ} → k ≤ i → ltb i k ≡ false
    isnt_before h = grind (arith, nat_tests)

-- a mask that proves a device's charge: no feasible dispatch that serves all zones, discharges all devices and
-- charges the earlier ones alike charges it more
pub charge_is_greatest : (n : NetworkParts) (d other : Dispatch) (k mask : ℕ)
    → IsShape n.shape
    → IsFeasible n d
    → IsFeasible n other
    → k < device_count n.shape
    → ProvesCharge n d.served d.discharge d.charge k mask
    → ((z : ℕ) → z < n.shape.zones → unserved_at n other z ≡ unserved_at n d z)
    → ((i : ℕ) → i < device_count n.shape → other.discharge i ≡ d.discharge i)
    → ((i : ℕ) → i < k → uncharged_at n other i ≡ uncharged_at n d i)
    → uncharged_at n d k ≤ uncharged_at n other k
charge_is_greatest n d other k mask valid feasible feasible' below proves served discharged before =
    elim (cases_eq mask 0) [
      | inl none ↦ omega (arith, proves.bound none)
      | inr some ↦
          let charged : ℕ → ℕ = up_to d.charge k in
          let alike : over_zones n.shape other.served (inside mask) ≡ over_zones n.shape d.served (inside mask) =
          sum_where-same (inside mask) other.served d.served n.shape.zones
          (λ z less in'. served_same n d other z feasible feasible' less (served z less)) in
          let given : over_devices n.shape other.discharge (inside mask) ≡ over_devices n.shape d.discharge (inside mask) =
          sum_where-same (λ i. inside mask (zone_of_device n.shape i)) other.discharge d.discharge (device_count n.shape)
          (λ i less in'. discharged i less) in
          let made : over_zones n.shape other.generation (inside mask) ≤ supply_of n (inside mask) =
          sum_where-mono (inside mask) other.generation (supply_at n) n.shape.zones (λ z less in'. feasible'.generation z less) in
          let less : over_devices n.shape other.charge (inside mask) ≤ over_devices n.shape charged (inside mask) =
          omega (arith, proves.used some, served_within n other (inside mask) valid feasible') in
          let here : other.charge k ≤ charged k =
          sum_where-forces (λ i. inside mask (zone_of_device n.shape i)) other.charge charged (device_count n.shape) k below
          (proves.member some)
          (λ i less apart in'.
          elim (cases_lt i k) [
            | inl early ↦ omega (arith, cond-true (leb i k) (d.charge i) 0 (is_up_to (omega arith)), before i early, feasible'.charge i less, feasible.charge i less)
            | inr late ↦ omega (arith, cond-false (leb i k) (d.charge i) 0 (is_past (omega arith)))
          ])
          less in
          omega (arith, cond-true (leb k k) (d.charge k) 0 (is_up_to (omega arith)))
    ]
  where
    is_up_to : {i k : ℕ} → i ≤ k → leb i k ≡ true
    is_up_to h = grind (arith, nat_tests)

    is_past : {i k : ℕ} → k < i → leb i k ≡ false
    is_past h = grind (arith, nat_tests)
