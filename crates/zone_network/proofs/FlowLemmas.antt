use Rattle.std.proofs.Common.{◌≡◌, ℕ, ℤ, ◌+◌, ◌<◌, ◌≤◌, ◌==◌, true, false, refl, ◌∙◌, arith}
use Rattle.std.proofs.lemmas.List.Elements.{All-get_or}
use Rattle.zone_network.specs.Sums.{NumberSet, sum_where}
use Rattle.zone_network.specs.Network.{ShapeParts, NetworkParts, IsShape, IsLinkAmong, no_link, link_count, device_count, link_at, from_zone, to_zone, zone_of_device, forward_of, backward_of, inflow, outflow, enters_forward, enters_backward, into, over_zones, over_devices, supply_at, load_at, forward_at, backward_at, discharge_cap_at}
use Rattle.zone_network.specs.Dispatch.{Dispatch, IsFeasible, unserved_at, total_unserved}
use Rattle.zone_network.specs.Cut.{load_of, supply_of, discharge_caps_of, IsTight}
use Rattle.zone_network.proofs.SumLemmas.{sum_where-same, sum_where-mono, sum_where-part, sum_where-add, sum_where-regroup, sum_where-crossing, sum_where-crossing_full, sum_where-crossing_forced}

-- the ends of a link are zones, and differ
pub link_among : (s : ShapeParts) (l : ℕ) → IsShape s → l < link_count s → IsLinkAmong s.zones (link_at s l)
link_among s l valid below = All-get_or (IsLinkAmong s.zones) s.ends l no_link below valid.each_link

pub device_among : (s : ShapeParts) (k : ℕ) → IsShape s → k < device_count s → zone_of_device s k < s.zones
device_among s k valid below = All-get_or (λ zone. zone < s.zones) s.device_zones k 0 below valid.each_device

-- what links carry, each way counted at one of their ends, over the zones of a set is one sum over links each way
regroup : (s : ShapeParts) (start end : ℕ → ℕ) (flow : ℕ → ℤ) (zones : NumberSet)
    → ((l : ℕ) → l < link_count s → start l < s.zones)
    → ((l : ℕ) → l < link_count s → end l < s.zones)
    → sum_where zones
    (λ z.
    sum_where (λ l. end l == z) (λ l. forward_of (flow l)) (link_count s)
    + sum_where (λ l. start l == z) (λ l. backward_of (flow l)) (link_count s))
    s.zones
    ≡ sum_where (λ l. zones (end l)) (λ l. forward_of (flow l)) (link_count s)
    + sum_where (λ l. zones (start l)) (λ l. backward_of (flow l)) (link_count s)
regroup s start end flow zones starts ends =
    let forward : ℕ → ℕ = λ z. sum_where (λ l. end l == z) (λ l. forward_of (flow l)) (link_count s) in
    let backward : ℕ → ℕ = λ z. sum_where (λ l. start l == z) (λ l. backward_of (flow l)) (link_count s) in
    let split : sum_where zones (λ z. forward z + backward z) s.zones ≡ sum_where zones forward s.zones + sum_where zones backward s.zones =
    sum_where-add zones forward backward s.zones in
    let first : sum_where zones forward s.zones ≡ sum_where (λ l. zones (end l)) (λ l. forward_of (flow l)) (link_count s) =
    sum_where-regroup zones end (λ l. forward_of (flow l)) s.zones (link_count s) ends in
    let second : sum_where zones backward s.zones ≡ sum_where (λ l. zones (start l)) (λ l. backward_of (flow l)) (link_count s) =
    sum_where-regroup zones start (λ l. backward_of (flow l)) s.zones (link_count s) starts in
    omega arith

-- what comes into the zones of a set
pub inflow-regroup : (s : ShapeParts) (flow : ℕ → ℤ) (zones : NumberSet)
    → IsShape s
    → over_zones s (inflow s flow) zones
    ≡ sum_where (λ l. zones (to_zone s l)) (λ l. forward_of (flow l)) (link_count s)
    + sum_where (λ l. zones (from_zone s l)) (λ l. backward_of (flow l)) (link_count s)
inflow-regroup s flow zones valid =
    regroup s (from_zone s) (to_zone s) flow zones
    (λ l below. (link_among s l valid below).start) (λ l below. (link_among s l valid below).end)

-- what goes out of them
pub outflow-regroup : (s : ShapeParts) (flow : ℕ → ℤ) (zones : NumberSet)
    → IsShape s
    → over_zones s (outflow s flow) zones
    ≡ sum_where (λ l. zones (from_zone s l)) (λ l. forward_of (flow l)) (link_count s)
    + sum_where (λ l. zones (to_zone s l)) (λ l. backward_of (flow l)) (link_count s)
outflow-regroup s flow zones valid =
    regroup s (to_zone s) (from_zone s) flow zones
    (λ l below. (link_among s l valid below).end) (λ l below. (link_among s l valid below).start)

-- the devices in the zones of a set, zone by zone
pub over_devices-regroup : (s : ShapeParts) (amount : ℕ → ℕ) (zones : NumberSet)
    → IsShape s
    → over_zones s (λ z. over_devices s amount (λ w. w == z)) zones ≡ over_devices s amount zones
over_devices-regroup s amount zones valid =
    sum_where-regroup zones (zone_of_device s) amount s.zones (device_count s) (λ k below. device_among s k valid below)

-- flows within their limits bring into a set at most what they take out of it and the limits into it
pub links_cross : (n : NetworkParts) (flow : ℕ → ℤ) (zones : NumberSet)
    → IsShape n.shape
    → ((l : ℕ) → l < link_count n.shape → forward_of (flow l) ≤ forward_at n l)
    → ((l : ℕ) → l < link_count n.shape → backward_of (flow l) ≤ backward_at n l)
    → over_zones n.shape (inflow n.shape flow) zones ≤ over_zones n.shape (outflow n.shape flow) zones + into n zones
links_cross n flow zones valid forward backward =
    let s : ShapeParts = n.shape in
    let first : sum_where (λ l. zones (to_zone n.shape l)) (λ l. forward_of (flow l)) (link_count n.shape)
    ≤ sum_where (λ l. zones (from_zone n.shape l)) (λ l. forward_of (flow l)) (link_count n.shape)
    + sum_where (enters_forward n.shape zones) (forward_at n) (link_count n.shape) =
    sum_where-crossing (λ l. zones (from_zone n.shape l)) (λ l. zones (to_zone n.shape l)) (λ l. forward_of (flow l)) (forward_at n)
    (link_count n.shape) forward in
    let second : sum_where (λ l. zones (from_zone n.shape l)) (λ l. backward_of (flow l)) (link_count n.shape)
    ≤ sum_where (λ l. zones (to_zone n.shape l)) (λ l. backward_of (flow l)) (link_count n.shape)
    + sum_where (enters_backward n.shape zones) (backward_at n) (link_count n.shape) =
    sum_where-crossing (λ l. zones (to_zone n.shape l)) (λ l. zones (from_zone n.shape l)) (λ l. backward_of (flow l)) (backward_at n)
    (link_count n.shape) backward in
    omega (arith, inflow-regroup n.shape flow zones valid, outflow-regroup n.shape flow zones valid)

-- each link into a set of zones is full, and none takes anything out of it
pub record AreFull (n : NetworkParts) (flow : ℕ → ℤ) (zones : NumberSet) : Type 0 where
  pub enters :
      (l : ℕ)
      → l < link_count n.shape
      → zones (from_zone n.shape l) ≡ false
      → zones (to_zone n.shape l) ≡ true
      → (forward_of (flow l) ≡ forward_at n l) × (backward_of (flow l) ≡ 0)
  pub leaves :
      (l : ℕ)
      → l < link_count n.shape
      → zones (from_zone n.shape l) ≡ true
      → zones (to_zone n.shape l) ≡ false
      → (backward_of (flow l) ≡ backward_at n l) × (forward_of (flow l) ≡ 0)

-- the same as an equation, where the links into the set are full
pub links_cross-full : (n : NetworkParts) (flow : ℕ → ℤ) (zones : NumberSet)
    → IsShape n.shape
    → AreFull n flow zones
    → over_zones n.shape (inflow n.shape flow) zones ≡ over_zones n.shape (outflow n.shape flow) zones + into n zones
links_cross-full n flow zones valid full =
    let first : sum_where (λ l. zones (to_zone n.shape l)) (λ l. forward_of (flow l)) (link_count n.shape)
    ≡ sum_where (λ l. zones (from_zone n.shape l)) (λ l. forward_of (flow l)) (link_count n.shape)
    + sum_where (enters_forward n.shape zones) (forward_at n) (link_count n.shape) =
    sum_where-crossing_full (λ l. zones (from_zone n.shape l)) (λ l. zones (to_zone n.shape l)) (λ l. forward_of (flow l)) (forward_at n)
    (link_count n.shape) (λ l below p q. (full.enters l below p q).0) (λ l below p q. (full.leaves l below p q).1) in
    let second : sum_where (λ l. zones (from_zone n.shape l)) (λ l. backward_of (flow l)) (link_count n.shape)
    ≡ sum_where (λ l. zones (to_zone n.shape l)) (λ l. backward_of (flow l)) (link_count n.shape)
    + sum_where (enters_backward n.shape zones) (backward_at n) (link_count n.shape) =
    sum_where-crossing_full (λ l. zones (to_zone n.shape l)) (λ l. zones (from_zone n.shape l)) (λ l. backward_of (flow l)) (backward_at n)
    (link_count n.shape) (λ l below p q. (full.leaves l below q p).0) (λ l below p q. (full.enters l below q p).1) in
    omega (arith, inflow-regroup n.shape flow zones valid, outflow-regroup n.shape flow zones valid)

-- and conversely: where the links bring in as much as they may, each into the set is full and none takes anything
-- out of it
pub links_cross-forced : (n : NetworkParts) (flow : ℕ → ℤ) (zones : NumberSet)
    → IsShape n.shape
    → ((l : ℕ) → l < link_count n.shape → forward_of (flow l) ≤ forward_at n l)
    → ((l : ℕ) → l < link_count n.shape → backward_of (flow l) ≤ backward_at n l)
    → over_zones n.shape (outflow n.shape flow) zones + into n zones ≤ over_zones n.shape (inflow n.shape flow) zones
    → AreFull n flow zones
links_cross-forced n flow zones valid forward backward most =
    let first : sum_where (λ l. zones (to_zone n.shape l)) (λ l. forward_of (flow l)) (link_count n.shape)
    ≤ sum_where (λ l. zones (from_zone n.shape l)) (λ l. forward_of (flow l)) (link_count n.shape)
    + sum_where (enters_forward n.shape zones) (forward_at n) (link_count n.shape) =
    sum_where-crossing (λ l. zones (from_zone n.shape l)) (λ l. zones (to_zone n.shape l)) (λ l. forward_of (flow l)) (forward_at n)
    (link_count n.shape) forward in
    let second : sum_where (λ l. zones (from_zone n.shape l)) (λ l. backward_of (flow l)) (link_count n.shape)
    ≤ sum_where (λ l. zones (to_zone n.shape l)) (λ l. backward_of (flow l)) (link_count n.shape)
    + sum_where (enters_backward n.shape zones) (backward_at n) (link_count n.shape) =
    sum_where-crossing (λ l. zones (to_zone n.shape l)) (λ l. zones (from_zone n.shape l)) (λ l. backward_of (flow l)) (backward_at n)
    (link_count n.shape) backward in
    let ins = inflow-regroup n.shape flow zones valid in
    let outs = outflow-regroup n.shape flow zones valid in
    let aheads = sum_where-crossing_forced (λ l. zones (from_zone n.shape l)) (λ l. zones (to_zone n.shape l)) (λ l. forward_of (flow l)) (forward_at n)
    (link_count n.shape) forward (omega arith) in
    let backs = sum_where-crossing_forced (λ l. zones (to_zone n.shape l)) (λ l. zones (from_zone n.shape l)) (λ l. backward_of (flow l)) (backward_at n)
    (link_count n.shape) backward (omega arith) in
    record {
      enters = λ l below p q. ((aheads l below).0 p q, (backs l below).1 q p);
      leaves = λ l below p q. ((backs l below).0 q p, (aheads l below).1 p q);
    }

-- where each zone of a set is in balance so is the set
pub balance_over : (s : ShapeParts) (made given used stored : ℕ → ℕ) (flow : ℕ → ℤ) (zones : NumberSet)
    → IsShape s
    → ((z : ℕ) → z < s.zones → made z + over_devices s given (λ w. w == z) + inflow s flow z ≡ used z + over_devices s stored (λ w. w == z) + outflow s flow z)
    → over_zones s made zones + over_devices s given zones + over_zones s (inflow s flow) zones
    ≡ over_zones s used zones + over_devices s stored zones + over_zones s (outflow s flow) zones
balance_over s made given used stored flow zones valid balance =
    let discharged : ℕ → ℕ = λ z. over_devices s given (λ w. w == z) in
    let charged : ℕ → ℕ = λ z. over_devices s stored (λ w. w == z) in
    let come : ℕ → ℕ = λ z. made z + discharged z in
    let taken : ℕ → ℕ = λ z. used z + charged z in
    let by_zone : sum_where zones (λ z. come z + inflow s flow z) s.zones ≡ sum_where zones (λ z. taken z + outflow s flow z) s.zones =
    sum_where-same zones (λ z. come z + inflow s flow z) (λ z. taken z + outflow s flow z) s.zones
    (λ z below in'. balance z below) in
    let g1 : sum_where zones (λ z. come z + inflow s flow z) s.zones
    ≡ sum_where zones come s.zones + sum_where zones (inflow s flow) s.zones =
    sum_where-add zones come (inflow s flow) s.zones in
    let g2 : sum_where zones come s.zones ≡ sum_where zones made s.zones + sum_where zones discharged s.zones =
    sum_where-add zones made discharged s.zones in
    let t1 : sum_where zones (λ z. taken z + outflow s flow z) s.zones
    ≡ sum_where zones taken s.zones + sum_where zones (outflow s flow) s.zones =
    sum_where-add zones taken (outflow s flow) s.zones in
    let t2 : sum_where zones taken s.zones ≡ sum_where zones used s.zones + sum_where zones charged s.zones =
    sum_where-add zones used charged s.zones in
    let devices : sum_where zones discharged s.zones ≡ over_devices s given zones =
    over_devices-regroup s given zones valid in
    let charges : sum_where zones charged s.zones ≡ over_devices s stored zones =
    over_devices-regroup s stored zones valid in
    omega arith

-- what a feasible dispatch serves and charges in a set of zones is at most what it makes and discharges there and
-- the limits into the set
pub served_within : (n : NetworkParts) (d : Dispatch) (zones : NumberSet)
    → IsShape n.shape
    → IsFeasible n d
    → over_zones n.shape d.served zones + over_devices n.shape d.charge zones
    ≤ over_zones n.shape d.generation zones + over_devices n.shape d.discharge zones + into n zones
served_within n d zones valid feasible =
    omega (
      arith,
      balance_over n.shape d.generation d.discharge d.served d.charge d.flow zones valid feasible.balance,
      links_cross n d.flow zones valid feasible.forward feasible.backward,
    )

-- and so is at most the set's supply, its discharge caps and the limits into it
pub served_within_caps : (n : NetworkParts) (d : Dispatch) (zones : NumberSet)
    → IsShape n.shape
    → IsFeasible n d
    → over_zones n.shape d.served zones ≤ supply_of n zones + discharge_caps_of n zones + into n zones
served_within_caps n d zones valid feasible =
    let made : over_zones n.shape d.generation zones ≤ supply_of n zones =
    sum_where-mono zones d.generation (supply_at n) n.shape.zones (λ z below in'. feasible.generation z below) in
    let discharged : over_devices n.shape d.discharge zones ≤ discharge_caps_of n zones =
    sum_where-mono (λ k. zones (zone_of_device n.shape k)) d.discharge (discharge_cap_at n) (device_count n.shape)
    (λ k below in'. feasible.discharge k below) in
    omega (arith, served_within n d zones valid feasible)

-- the load of a set is what is served and what isn't
pub load_of-split : (n : NetworkParts) (d : Dispatch) (zones : NumberSet)
    → IsFeasible n d
    → load_of n zones ≡ over_zones n.shape (unserved_at n d) zones + over_zones n.shape d.served zones
load_of-split n d zones feasible =
    sum_where-same zones (load_at n) (λ z. unserved_at n d z + d.served z) n.shape.zones
    (λ z below in'. omega (arith, feasible.served z below))
    ∙ sum_where-add zones (unserved_at n d) d.served n.shape.zones

-- no feasible dispatch leaves less unserved than a set's load less its supply, its discharge caps and the limits
-- into it
pub unserved_at_least : (n : NetworkParts) (d : Dispatch) (zones : NumberSet)
    → IsShape n.shape
    → IsFeasible n d
    → load_of n zones ≤ total_unserved n d + supply_of n zones + discharge_caps_of n zones + into n zones
unserved_at_least n d zones valid feasible =
    let part : over_zones n.shape (unserved_at n d) zones ≤ total_unserved n d =
    sum_where-part zones (λ z. true) (unserved_at n d) n.shape.zones (λ z below in'. refl) in
    omega (arith, load_of-split n d zones feasible, served_within_caps n d zones valid feasible)

-- a tight set proves its total the least: no feasible dispatch has less unserved
pub tight_is_least : (n : NetworkParts) (unserved : ℕ) (zones : NumberSet) (d : Dispatch)
    → IsShape n.shape
    → IsTight n unserved zones
    → IsFeasible n d
    → unserved ≤ total_unserved n d
tight_is_least n unserved zones d valid tight feasible =
    omega (arith, unserved_at_least n d zones valid feasible)
