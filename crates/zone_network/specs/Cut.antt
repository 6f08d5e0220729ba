-- tight sets of zones, and the cut of an hour
use Rattle.std.specs.Prelude.{◌≡◌, ℕ, ◌+◌, ◌<◌, ◌^◌, IsTrue}
use Rattle.zone_network.specs.Sums.{NumberSet, inside}
use Rattle.zone_network.specs.Network.{NetworkParts, over_zones, over_devices, into, supply_at, load_at, discharge_cap_at}

-- load, supply and discharge caps of a set of zones, in MW
abbrev pub load_of : NetworkParts → NumberSet → ℕ
load_of n zones = over_zones n.shape (load_at n) zones

abbrev pub supply_of : NetworkParts → NumberSet → ℕ
supply_of n zones = over_zones n.shape (supply_at n) zones

abbrev pub discharge_caps_of : NetworkParts → NumberSet → ℕ
discharge_caps_of n zones = over_devices n.shape (discharge_cap_at n) zones

-- a set is tight for a total unserved load where this is the set's load less its supply, its discharge caps and
-- the limits into it
abbrev pub IsTight : NetworkParts → ℕ → NumberSet → Type 0
IsTight n unserved zones = unserved + supply_of n zones + discharge_caps_of n zones + into n zones ≡ load_of n zones

-- a mask is the cut for a total unserved load: where there is some, the tight set that contains every tight set,
-- and else 0
pub record IsCut (n : NetworkParts) (unserved mask : ℕ) : Type 0 where
  pub among : mask < 2 ^ n.shape.zones
  pub none : unserved ≡ 0 → mask ≡ 0
  pub tight : 0 < unserved → IsTight n unserved (inside mask)
  pub greatest :
      0 < unserved
      → (zones : NumberSet)
      → IsTight n unserved zones
      → (z : ℕ)
      → z < n.shape.zones
      → IsTrue (zones z)
      → IsTrue (inside mask z)
