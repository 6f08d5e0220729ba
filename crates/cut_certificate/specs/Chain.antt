-- the chain of sets that proves an outcome the best
use Rattle.std.specs.Prelude.{◌≡◌, ◌≢◌, ℕ, ℤ, pos, ◌+◌, ◌-◌, ◌<◌, ◌≤◌, ◌^◌, ◌&&◌, IsTrue, List, All, length, replicate, true, slice_index, slice_index_or, nat_lt, nat_le, if◌then◌else◌}
use Rattle.zone_network.specs.Sums.{inside}
use Rattle.zone_network.specs.Network.{ShapeParts, NetworkParts, into, over_zones, over_devices, zone_of_device, link_count, device_count, load_at, discharge_cap_at, charge_cap_at}
use Rattle.zone_network.specs.Dispatch.{Dispatch, IsFeasible, IsBest, not_after, unserved_at}
use Rattle.zone_network.specs.Cut.{supply_of, discharge_caps_of}
use Rattle.sample_totals.specs.declared.outcomes.HourOutcome.{HourOutcome}
use Rattle.cut_certificate.specs.declared.chains.Chain.{Chain}

-- the chain of this shape whose flows, generation and masks are all 0
abbrev pub empty_chain : ShapeParts → Chain
empty_chain s =
    record {
      flows = replicate (link_count s) (pos 0);
      generation = replicate s.zones 0;
      sets = replicate (s.zones + device_count s + device_count s) 0;
    }

-- each list of the outcome and of the chain has the length that the network's shape gives it
pub record AreSized (n : NetworkParts) (outcome : HourOutcome) (chain : Chain) : Type 0 where
  pub unserved : length outcome.unserved ≡ n.shape.zones
  pub discharge : length outcome.discharge ≡ device_count n.shape
  pub charge : length outcome.charge ≡ device_count n.shape
  pub energy : length outcome.energy ≡ device_count n.shape
  pub flows : length chain.flows ≡ link_count n.shape
  pub generation : length chain.generation ≡ n.shape.zones
  pub sets : length chain.sets ≡ n.shape.zones + device_count n.shape + device_count n.shape

-- so they have, and each mask has bits of the network's zones alone
pub record Fit (n : NetworkParts) (outcome : HourOutcome) (chain : Chain) : Type 0 where
  pub sizes : AreSized n outcome chain
  pub masks : All (λ mask. mask < 2 ^ n.shape.zones) chain.sets

-- what the outcome says of a zone and of a device, in MW
abbrev pub unserved_in : HourOutcome → ℕ → ℕ
unserved_in outcome = slice_index outcome.unserved

-- the load that isn't served, over all zones
abbrev pub all_unserved : NetworkParts → HourOutcome → ℕ
all_unserved n outcome = over_zones n.shape (unserved_in outcome) (λ z. true)

abbrev pub discharge_in : HourOutcome → ℕ → ℕ
discharge_in outcome = slice_index outcome.discharge

abbrev pub charge_in : HourOutcome → ℕ → ℕ
charge_in outcome = slice_index outcome.charge

-- what is served of a zone's load, by what isn't
abbrev pub served_but : NetworkParts → List ℕ → ℕ → ℕ
served_but n unserved z = load_at n z - slice_index unserved z

abbrev pub served_in : NetworkParts → HourOutcome → ℕ → ℕ
served_in n outcome = served_but n outcome.unserved

-- the flow of a link in a list of flows
abbrev pub flow_at : List ℤ → ℕ → ℤ
flow_at flows l = slice_index_or flows l (pos 0)

-- what the chain says of a zone and of a link, in MW
abbrev pub generation_in : Chain → ℕ → ℕ
generation_in chain = slice_index chain.generation

abbrev pub flow_in : Chain → ℕ → ℤ
flow_in chain = flow_at chain.flows

-- the mask that the chain has for a component: one for each zone, then one for each device's discharge, then one
-- for each device's charge
abbrev pub zone_set : Chain → ℕ → ℕ
zone_set chain z = slice_index chain.sets z

abbrev pub discharge_set : NetworkParts → Chain → ℕ → ℕ
discharge_set n chain k = slice_index chain.sets (n.shape.zones + k)

abbrev pub charge_set : NetworkParts → Chain → ℕ → ℕ
charge_set n chain k = slice_index chain.sets (n.shape.zones + device_count n.shape + k)

-- what the network does by the outcome with the chain's flows and generation
abbrev pub dispatch_of : NetworkParts → HourOutcome → Chain → Dispatch
dispatch_of n outcome chain =
    record {
      generation = generation_in chain;
      served = served_in n outcome;
      discharge = discharge_in outcome;
      charge = charge_in outcome;
      flow = flow_in chain;
    }

-- the outcome with the chain's flows and generation is feasible: no zone lacks more than its load, and what the
-- network does is feasible
pub record IsFeasibleBy (n : NetworkParts) (outcome : HourOutcome) (chain : Chain) : Type 0 where
  pub within : (z : ℕ) → z < n.shape.zones → unserved_in outcome z ≤ load_at n z
  pub feasible : IsFeasible n (dispatch_of n outcome chain)

-- the discharge caps of the devices before a device, and what is discharged from it on
abbrev pub with_caps_before : NetworkParts → (ℕ → ℕ) → ℕ → ℕ → ℕ
with_caps_before n discharge k = λ i. if nat_lt i k then discharge_cap_at n i else discharge i

-- what is charged up to a device, and nothing from the next one on
abbrev pub up_to : (ℕ → ℕ) → ℕ → ℕ → ℕ
up_to charge k = λ i. if nat_le i k then charge i else 0

-- A mask proves that a component can't be improved while those before it in the order of comparison stay. The mask
-- 0 stands for a component at its bound. A set proves it where the zone of the component is in the set and all that
-- could serve the set is used up.

-- unserved load of a zone: what is served in the set's zones that don't stand after it is all that there is
pub record ProvesUnserved (n : NetworkParts) (served : ℕ → ℕ) (unserved : ℕ → ℕ) (z mask : ℕ) : Type 0 where
  pub bound : mask ≡ 0 → unserved z ≡ 0
  pub member : mask ≢ 0 → IsTrue (inside mask z)
  pub used :
      mask ≢ 0
      → over_zones n.shape served (λ j. inside mask j && not_after n.shape z j)
      ≡ supply_of n (inside mask) + discharge_caps_of n (inside mask) + into n (inside mask)

-- discharge of a device: what is served in the set takes all of the supply, of the limits into it, of the caps of
-- the devices before it, and what is discharged from it on
pub record ProvesDischarge (n : NetworkParts) (served discharge : ℕ → ℕ) (k mask : ℕ) : Type 0 where
  pub bound : mask ≡ 0 → discharge k ≡ 0
  pub member : mask ≢ 0 → IsTrue (inside mask (zone_of_device n.shape k))
  pub used :
      mask ≢ 0
      → over_zones n.shape served (inside mask)
      ≡ supply_of n (inside mask) + into n (inside mask) + over_devices n.shape (with_caps_before n discharge k) (inside mask)

-- charge of a device: what is served in the set, and charged there up to it, takes all of the supply, of the
-- discharge and of the limits into it
pub record ProvesCharge (n : NetworkParts) (served discharge charge : ℕ → ℕ) (k mask : ℕ) : Type 0 where
  pub bound : mask ≡ 0 → charge k ≡ charge_cap_at n k
  pub member : mask ≢ 0 → IsTrue (inside mask (zone_of_device n.shape k))
  pub used :
      mask ≢ 0
      → over_zones n.shape served (inside mask) + over_devices n.shape (up_to charge k) (inside mask)
      ≡ supply_of n (inside mask) + over_devices n.shape discharge (inside mask) + into n (inside mask)

-- the same of an outcome
abbrev pub ProvesUnservedIn : NetworkParts → HourOutcome → ℕ → ℕ → Type 0
ProvesUnservedIn n outcome z mask = ProvesUnserved n (served_in n outcome) (unserved_in outcome) z mask

abbrev pub ProvesDischargeIn : NetworkParts → HourOutcome → ℕ → ℕ → Type 0
ProvesDischargeIn n outcome k mask = ProvesDischarge n (served_in n outcome) (discharge_in outcome) k mask

abbrev pub ProvesChargeIn : NetworkParts → HourOutcome → ℕ → ℕ → Type 0
ProvesChargeIn n outcome k mask = ProvesCharge n (served_in n outcome) (discharge_in outcome) (charge_in outcome) k mask

-- the masks of the first so many zones prove their unserved load, those of the first so many devices their
-- discharge, and their charge
abbrev pub ProveUnserved : NetworkParts → HourOutcome → Chain → ℕ → Type 0
ProveUnserved n outcome chain count = (z : ℕ) → z < count → ProvesUnservedIn n outcome z (zone_set chain z)

abbrev pub ProveDischarge : NetworkParts → HourOutcome → Chain → ℕ → Type 0
ProveDischarge n outcome chain count = (k : ℕ) → k < count → ProvesDischargeIn n outcome k (discharge_set n chain k)

abbrev pub ProveCharge : NetworkParts → HourOutcome → Chain → ℕ → Type 0
ProveCharge n outcome chain count = (k : ℕ) → k < count → ProvesChargeIn n outcome k (charge_set n chain k)

-- each mask of the chain proves its component
pub record IsProvedBy (n : NetworkParts) (outcome : HourOutcome) (chain : Chain) : Type 0 where
  pub unserved : ProveUnserved n outcome chain n.shape.zones
  pub discharge : ProveDischarge n outcome chain (device_count n.shape)
  pub charge : ProveCharge n outcome chain (device_count n.shape)

-- a chain that is accepted: it shows that the outcome is feasible, and proves it
abbrev pub IsAccepted : NetworkParts → HourOutcome → Chain → Type 0
IsAccepted n outcome chain = IsFeasibleBy n outcome chain × IsProvedBy n outcome chain

-- the outcome's lists are those of a dispatch
pub record AreListsOf (n : NetworkParts) (d : Dispatch) (outcome : HourOutcome) : Type 0 where
  pub unserved : (z : ℕ) → z < n.shape.zones → unserved_in outcome z ≡ unserved_at n d z
  pub discharge : (k : ℕ) → k < device_count n.shape → discharge_in outcome k ≡ d.discharge k
  pub charge : (k : ℕ) → k < device_count n.shape → charge_in outcome k ≡ d.charge k

-- an outcome is best where its unserved load, discharge and charge are those of a best dispatch
abbrev pub IsBestOutcome : NetworkParts → HourOutcome → Type 0
IsBestOutcome n outcome = (d : Dispatch) × IsBest n d × AreListsOf n d outcome

-- two outcomes have the same unserved load by zone, and the same discharge and charge by device
pub record HaveSameLists (n : NetworkParts) (outcome other : HourOutcome) : Type 0 where
  pub unserved : (z : ℕ) → z < n.shape.zones → unserved_in outcome z ≡ unserved_in other z
  pub discharge : (k : ℕ) → k < device_count n.shape → discharge_in outcome k ≡ discharge_in other k
  pub charge : (k : ℕ) → k < device_count n.shape → charge_in outcome k ≡ charge_in other k

-- an outcome is the only best one: it is best, and each other that is best has the same lists
pub record IsOnlyBestOutcome (n : NetworkParts) (outcome : HourOutcome) : Type 0 where
  pub best : IsBestOutcome n outcome
  pub only : (other : HourOutcome) → IsBestOutcome n other → HaveSameLists n outcome other
