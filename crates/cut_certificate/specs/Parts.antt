-- what feasibility asks of each zone, device and link
use Rattle.std.specs.Prelude.{◌≡◌, ℕ, ℤ, ◌+◌, ◌<◌, ◌≤◌, ◌==◌, List, if◌then◌else◌}
use Rattle.zone_network.specs.Sums.{NumberSet}
use Rattle.zone_network.specs.Network.{ShapeParts, NetworkParts, from_zone, to_zone, enters_forward, enters_backward, forward_of, backward_of, inflow, outflow, over_devices, supply_at, load_at, forward_at, backward_at, discharge_cap_at, charge_cap_at}
use Rattle.sample_totals.specs.declared.outcomes.HourOutcome.{HourOutcome}
use Rattle.cut_certificate.specs.declared.chains.Chain.{Chain}
use Rattle.cut_certificate.specs.Chain.{unserved_in, discharge_in, charge_in, served_in, generation_in, flow_in, flow_at}

-- what comes in to a zone or is made there goes out or is used there
abbrev pub IsBalanced : NetworkParts → HourOutcome → Chain → ℕ → Type 0
IsBalanced n outcome chain z =
    generation_in chain z + over_devices n.shape (discharge_in outcome) (λ w. w == z) + inflow n.shape (flow_in chain) z
    ≡ served_in n outcome z + over_devices n.shape (charge_in outcome) (λ w. w == z) + outflow n.shape (flow_in chain) z

-- what feasibility asks of one zone
pub record IsFeasibleZone (n : NetworkParts) (outcome : HourOutcome) (chain : Chain) (z : ℕ) : Type 0 where
  pub within : unserved_in outcome z ≤ load_at n z
  pub generation : generation_in chain z ≤ supply_at n z
  pub balance : IsBalanced n outcome chain z

-- what it asks of one device
pub record IsFeasibleDevice (n : NetworkParts) (outcome : HourOutcome) (k : ℕ) : Type 0 where
  pub discharge : discharge_in outcome k ≤ discharge_cap_at n k
  pub charge : charge_in outcome k ≤ charge_cap_at n k

-- what it asks of one link
pub record IsFeasibleLink (n : NetworkParts) (flows : List ℤ) (l : ℕ) : Type 0 where
  pub forward : forward_of (flow_at flows l) ≤ forward_at n l
  pub backward : backward_of (flow_at flows l) ≤ backward_at n l

-- of the first so many zones, devices and links each is feasible
abbrev pub AreFeasibleZones : NetworkParts → HourOutcome → Chain → ℕ → Type 0
AreFeasibleZones n outcome chain count = (z : ℕ) → z < count → IsFeasibleZone n outcome chain z

abbrev pub AreFeasibleDevices : NetworkParts → HourOutcome → ℕ → Type 0
AreFeasibleDevices n outcome count = (k : ℕ) → k < count → IsFeasibleDevice n outcome k

abbrev pub AreFeasibleLinks : NetworkParts → List ℤ → ℕ → Type 0
AreFeasibleLinks n flows count = (l : ℕ) → l < count → IsFeasibleLink n flows l

-- what a link brings into a zone, and what it takes out of it
abbrev pub brought : ShapeParts → List ℤ → ℕ → ℕ → ℕ
brought s flows l z =
    (if to_zone s l == z then forward_of (flow_at flows l) else 0)
    + (if from_zone s l == z then backward_of (flow_at flows l) else 0)

abbrev pub taken : ShapeParts → List ℤ → ℕ → ℕ → ℕ
taken s flows l z =
    (if from_zone s l == z then forward_of (flow_at flows l) else 0)
    + (if to_zone s l == z then backward_of (flow_at flows l) else 0)

-- the limit of a link into a set of zones, and 0 where it doesn't enter it
abbrev pub limit_into : NetworkParts → NumberSet → ℕ → ℕ
limit_into n zones l =
    (if enters_forward n.shape zones l then forward_at n l else 0)
    + (if enters_backward n.shape zones l then backward_at n l else 0)
