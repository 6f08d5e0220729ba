-- the shape of a network and its amounts in one hour
use Rattle.std.specs.Prelude.{◌≡◌, ◌≢◌, ℕ, ℤ, pos, negsuc, ◌+◌, ◌<◌, ◌≤◌, ◌==◌, ◌&&◌, ◌||◌, not, List, length, replicate, slice_index, slice_index_or, All, filter}
use Rattle.std.specs.List.{range_with_len}
use Rattle.ra_base.specs.declared.limits.TheConstants.{MOST_ZONES, MOST_INTERFACES, MOST_STORAGES, MOST_LINK_MW}
use Rattle.zone_network.specs.declared.links.Link.{Link}
use Rattle.zone_network.specs.Sums.{NumberSet, sum_where}

-- what stays the same over all hours: how many zones there are, the ends of each link, the zone of each device
pub record ShapeParts : Type 0 where
  pub zones : ℕ
  pub ends : List Link
  pub device_zones : List ℕ

-- the network of one hour: its shape and its amounts in MW, by zone, by link and by device
pub record NetworkParts : Type 0 where
  pub shape : ShapeParts
  pub supplies : List ℕ
  pub loads : List ℕ
  pub forwards : List ℕ
  pub backwards : List ℕ
  pub discharge_caps : List ℕ
  pub charge_caps : List ℕ

-- a link between two different zones, of so many
pub record IsLinkAmong (zones : ℕ) (l : Link) : Type 0 where
  pub start : l.from < zones
  pub end : l.to < zones
  pub apart : l.from ≢ l.to

-- 1 to 32 zones, at most 128 links and 128 devices, and each number of a zone in range
pub record IsShape (s : ShapeParts) : Type 0 where
  pub some : 0 < s.zones
  pub zones : s.zones ≤ MOST_ZONES
  pub links : length s.ends ≤ MOST_INTERFACES
  pub devices : length s.device_zones ≤ MOST_STORAGES
  pub each_link : All (IsLinkAmong s.zones) s.ends
  pub each_device : All (λ zone. zone < s.zones) s.device_zones

-- so many amounts, each at most 1,000,000 MW
pub record AreAmounts (count : ℕ) (amounts : List ℕ) : Type 0 where
  pub size : length amounts ≡ count
  pub most : All (λ mw. mw ≤ MOST_LINK_MW) amounts

-- a network: each zone, link and device has its amounts
pub record IsNetwork (n : NetworkParts) : Type 0 where
  pub shape : IsShape n.shape
  pub supplies : AreAmounts n.shape.zones n.supplies
  pub loads : AreAmounts n.shape.zones n.loads
  pub forwards : AreAmounts (length n.shape.ends) n.forwards
  pub backwards : AreAmounts (length n.shape.ends) n.backwards
  pub discharge_caps : AreAmounts (length n.shape.device_zones) n.discharge_caps
  pub charge_caps : AreAmounts (length n.shape.device_zones) n.charge_caps

-- how many links and devices there are
abbrev pub link_count : ShapeParts → ℕ
link_count s = length s.ends

abbrev pub device_count : ShapeParts → ℕ
device_count s = length s.device_zones

-- what stands past the last link: nothing
abbrev pub no_link : Link
no_link = record { from = 0; to = 1 }

-- the link of a number, from 0
abbrev pub link_at : ShapeParts → ℕ → Link
link_at s l = slice_index_or s.ends l no_link

-- the zone that a link leaves when its flow is forward, and the one that it enters then
abbrev pub from_zone : ShapeParts → ℕ → ℕ
from_zone s l = (link_at s l).from

abbrev pub to_zone : ShapeParts → ℕ → ℕ
to_zone s l = (link_at s l).to

-- whether a link, of those with these ends, starts or ends in a zone
abbrev pub touches_at : List Link → ℕ → NumberSet
touches_at ends zone =
    λ l. ((slice_index_or ends l no_link).from == zone) || ((slice_index_or ends l no_link).to == zone)

-- the links that start or end in a zone, ascending
abbrev pub touching : List Link → ℕ → List ℕ
touching ends zone = filter (touches_at ends zone) (range_with_len 0 (length ends))

abbrev pub links_of : ShapeParts → ℕ → List ℕ
links_of s zone = touching s.ends zone

-- the zone of a device
abbrev pub zone_of_device : ShapeParts → ℕ → ℕ
zone_of_device s k = slice_index s.device_zones k

-- a network of this shape whose amounts are all 0
abbrev pub empty_network : ShapeParts → NetworkParts
empty_network s =
    record {
      shape = s;
      supplies = replicate s.zones 0;
      loads = replicate s.zones 0;
      forwards = replicate (link_count s) 0;
      backwards = replicate (link_count s) 0;
      discharge_caps = replicate (device_count s) 0;
      charge_caps = replicate (device_count s) 0;
    }

-- the amounts of a zone, in MW
abbrev pub supply_at : NetworkParts → ℕ → ℕ
supply_at n z = slice_index n.supplies z

abbrev pub load_at : NetworkParts → ℕ → ℕ
load_at n z = slice_index n.loads z

-- the limits of a link, in MW: from its first zone to its second, and the other way
abbrev pub forward_at : NetworkParts → ℕ → ℕ
forward_at n l = slice_index n.forwards l

abbrev pub backward_at : NetworkParts → ℕ → ℕ
backward_at n l = slice_index n.backwards l

-- the caps of a device, in MW
abbrev pub discharge_cap_at : NetworkParts → ℕ → ℕ
discharge_cap_at n k = slice_index n.discharge_caps k

abbrev pub charge_cap_at : NetworkParts → ℕ → ℕ
charge_cap_at n k = slice_index n.charge_caps k

-- of a signed flow, what goes forward and what goes backward: one of them is 0
abbrev pub forward_of : ℤ → ℕ
forward_of (pos mw) = mw
forward_of (negsuc below) = 0

abbrev pub backward_of : ℤ → ℕ
backward_of (pos mw) = 0
backward_of (negsuc below) = below + 1

-- what the flows by link bring into a zone, and what they take out of it
abbrev pub inflow : ShapeParts → (ℕ → ℤ) → ℕ → ℕ
inflow s flow z =
    sum_where (λ l. to_zone s l == z) (λ l. forward_of (flow l)) (link_count s)
    + sum_where (λ l. from_zone s l == z) (λ l. backward_of (flow l)) (link_count s)

abbrev pub outflow : ShapeParts → (ℕ → ℤ) → ℕ → ℕ
outflow s flow z =
    sum_where (λ l. from_zone s l == z) (λ l. forward_of (flow l)) (link_count s)
    + sum_where (λ l. to_zone s l == z) (λ l. backward_of (flow l)) (link_count s)

-- the links that enter a set of zones when their flow is forward, and when it is backward
abbrev pub enters_forward : ShapeParts → NumberSet → NumberSet
enters_forward s zones = λ l. not (zones (from_zone s l)) && zones (to_zone s l)

abbrev pub enters_backward : ShapeParts → NumberSet → NumberSet
enters_backward s zones = λ l. not (zones (to_zone s l)) && zones (from_zone s l)

-- the sum of the limits of links towards a set of zones from outside it
abbrev pub into : NetworkParts → NumberSet → ℕ
into n zones =
    sum_where (enters_forward n.shape zones) (forward_at n) (link_count n.shape)
    + sum_where (enters_backward n.shape zones) (backward_at n) (link_count n.shape)

-- the sum over the zones of a set of an amount by zone
abbrev pub over_zones : ShapeParts → (ℕ → ℕ) → NumberSet → ℕ
over_zones s amount zones = sum_where zones amount s.zones

-- the sum over the devices in the zones of a set of an amount by device
abbrev pub over_devices : ShapeParts → (ℕ → ℕ) → NumberSet → ℕ
over_devices s amount zones = sum_where (λ k. zones (zone_of_device s k)) amount (device_count s)
