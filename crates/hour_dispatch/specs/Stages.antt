-- how far each stage of a dispatch has come
use Rattle.std.specs.Prelude.{◌≡◌, ℕ, ◌+◌, ◌-◌, ◌<◌, ◌≤◌, ◌^◌, ◌==◌, IsTrue, List, length, slice_index, nat_lt, false, if◌then◌else◌}
use Rattle.zone_network.specs.Sums.{NumberSet, inside}
use Rattle.zone_network.specs.Network.{ShapeParts, NetworkParts, over_devices, zone_of_device, link_count, device_count, supply_at, load_at, discharge_cap_at, charge_cap_at}
use Rattle.zone_network.specs.Dispatch.{first_served}
use Rattle.transfer_flow.specs.Flow.{FlowParts, flow_at, spare_at}
use Rattle.sample_totals.specs.declared.outcomes.HourOutcome.{HourOutcome}
use Rattle.cut_certificate.specs.declared.chains.Chain.{Chain}
use Rattle.cut_certificate.specs.Chain.{served_but, served_in, discharge_in, generation_in, flow_in, with_caps_before, ProvesUnserved, ProvesDischarge, ProvesCharge}
use Rattle.hour_dispatch.specs.Balance.{IsInBalance}

-- nothing of any number
abbrev pub nothing : ℕ → ℕ
nothing i = 0

-- how many masks a chain has
abbrev pub set_count : ShapeParts → ℕ
set_count s = s.zones + device_count s + device_count s

-- what is served of a zone's load by what isn't, in the zones that were served, and nothing in the others
abbrev pub served_by : NetworkParts → List ℕ → NumberSet → ℕ → ℕ
served_by n unserved done j = if done j then served_but n unserved j else 0

-- no zone has more to spare than is there and its devices give
pub record IsUnused (n : NetworkParts) (f : FlowParts) (given : ℕ → ℕ) : Type 0 where
  pub most : (z : ℕ) → z < n.shape.zones → spare_at f z ≤ supply_at n z + over_devices n.shape given (λ w. w == z)

-- the zones in the first so many places of the serving order are served as far as can be: each mask proves it, and
-- the spares are unused supply and unused discharge caps
pub record IsServed (n : NetworkParts) (f : FlowParts) (unserved sets : List ℕ) (count : ℕ) : Type 0 where
  pub size : length unserved ≡ n.shape.zones
  pub sets_size : length sets ≡ set_count n.shape
  pub balance : IsInBalance n f (served_by n unserved (first_served n.shape count)) (discharge_cap_at n) nothing
  pub within : (j : ℕ) → IsTrue (first_served n.shape count j) → slice_index unserved j ≤ load_at n j
  pub proved :
      (j : ℕ)
      → IsTrue (first_served n.shape count j)
      → ProvesUnserved n (served_but n unserved) (slice_index unserved) j (slice_index sets j)
  pub masks : (j : ℕ) → IsTrue (first_served n.shape count j) → slice_index sets j < 2 ^ n.shape.zones
  pub unused : IsUnused n f (discharge_cap_at n)

-- all zones are served, and the devices from this one on discharge as little as they can, while those before it
-- could still give their caps
pub record IsSpared (n : NetworkParts) (f : FlowParts) (served : ℕ → ℕ) (discharge sets : List ℕ) (from : ℕ) : Type 0 where
  pub size : length discharge ≡ device_count n.shape
  pub sets_size : length sets ≡ set_count n.shape
  pub balance : IsInBalance n f served (with_caps_before n (slice_index discharge) from) nothing
  pub within : (i : ℕ) → from ≤ i → i < device_count n.shape → slice_index discharge i ≤ discharge_cap_at n i
  pub proved :
      (i : ℕ)
      → from ≤ i
      → i < device_count n.shape
      → ProvesDischarge n served (slice_index discharge) i (slice_index sets (n.shape.zones + i))
  pub masks : (i : ℕ) → from ≤ i → i < device_count n.shape → slice_index sets (n.shape.zones + i) < 2 ^ n.shape.zones
  pub unused : IsUnused n f (with_caps_before n (slice_index discharge) from)
  pub needed : (i : ℕ) → from ≤ i → i < device_count n.shape → 0 < slice_index discharge i → spare_at f (zone_of_device n.shape i) ≡ 0

-- the same of an outcome
abbrev pub IsSparedIn : NetworkParts → FlowParts → HourOutcome → List ℕ → ℕ → Type 0
IsSparedIn n f outcome sets from = IsSpared n f (served_in n outcome) outcome.discharge sets from

-- what the devices before one charge
abbrev pub charged_before : List ℕ → ℕ → ℕ → ℕ
charged_before charge count i = if nat_lt i count then slice_index charge i else 0

-- the first so many devices charge as much as they can of unused supply
pub record IsCharged (n : NetworkParts) (f : FlowParts) (served discharge : ℕ → ℕ) (charge sets : List ℕ) (count : ℕ) : Type 0 where
  pub size : length charge ≡ device_count n.shape
  pub sets_size : length sets ≡ set_count n.shape
  pub balance : IsInBalance n f served discharge (charged_before charge count)
  pub within : (i : ℕ) → i < count → slice_index charge i ≤ charge_cap_at n i
  pub proved :
      (i : ℕ)
      → i < count
      → ProvesCharge n served discharge (slice_index charge) i (slice_index sets (n.shape.zones + device_count n.shape + i))
  pub masks : (i : ℕ) → i < count → slice_index sets (n.shape.zones + device_count n.shape + i) < 2 ^ n.shape.zones
  pub unused : (z : ℕ) → z < n.shape.zones → spare_at f z ≤ supply_at n z

-- the same of an outcome
abbrev pub IsChargedIn : NetworkParts → FlowParts → HourOutcome → List ℕ → ℕ → Type 0
IsChargedIn n f outcome sets count = IsCharged n f (served_in n outcome) (discharge_in outcome) outcome.charge sets count

-- the first so many numbers stay
pub record Keeps (count : ℕ) (old new : List ℕ) : Type 0 where
  pub same : (i : ℕ) → i < count → slice_index new i ≡ slice_index old i

-- a mask holds the numbers below a count that are in a set, and no others
pub record IsMaskOf (count : ℕ) (set : NumberSet) (mask : ℕ) : Type 0 where
  pub among : mask < 2 ^ count
  pub same : (i : ℕ) → i < count → inside mask i ≡ set i
  pub past : (i : ℕ) → count ≤ i → inside mask i ≡ false

-- the chain has the flows, and generation is what isn't spared of supply
pub record IsShown (n : NetworkParts) (f : FlowParts) (chain : Chain) : Type 0 where
  pub flows_size : length chain.flows ≡ link_count n.shape
  pub generation_size : length chain.generation ≡ n.shape.zones
  pub generation : (z : ℕ) → z < n.shape.zones → generation_in chain z ≡ supply_at n z - spare_at f z
  pub flows : (l : ℕ) → l < link_count n.shape → flow_in chain l ≡ flow_at f l
