-- what a network may do in its hour, and the best that it may do
use Rattle.std.specs.Prelude.{◌≡◌, ℕ, ℤ, ◌+◌, ◌-◌, ◌<◌, ◌≤◌, ◌==◌, ◌⊎◌, List, [], ◌∷◌, ◌++◌, map, reverse, true, nat_lt, nat_le}
use Rattle.std.specs.List.{range_with_len}
use Rattle.zone_network.specs.Sums.{NumberSet}
use Rattle.zone_network.specs.Network.{ShapeParts, NetworkParts, forward_of, backward_of, inflow, outflow, over_zones, over_devices, link_count, device_count, supply_at, load_at, forward_at, backward_at, discharge_cap_at, charge_cap_at}

-- what a network does in its hour, in MW: generation and served load by zone, discharge and charge by device,
-- and a signed flow by link, forward being positive
pub record Dispatch : Type 0 where
  pub generation : ℕ → ℕ
  pub served : ℕ → ℕ
  pub discharge : ℕ → ℕ
  pub charge : ℕ → ℕ
  pub flow : ℕ → ℤ

-- nothing passes a bound, and in each zone what comes in or is made there goes out or is used there
pub record IsFeasible (n : NetworkParts) (d : Dispatch) : Type 0 where
  pub generation : (z : ℕ) → z < n.shape.zones → d.generation z ≤ supply_at n z
  pub served : (z : ℕ) → z < n.shape.zones → d.served z ≤ load_at n z
  pub discharge : (k : ℕ) → k < device_count n.shape → d.discharge k ≤ discharge_cap_at n k
  pub charge : (k : ℕ) → k < device_count n.shape → d.charge k ≤ charge_cap_at n k
  pub forward : (l : ℕ) → l < link_count n.shape → forward_of (d.flow l) ≤ forward_at n l
  pub backward : (l : ℕ) → l < link_count n.shape → backward_of (d.flow l) ≤ backward_at n l
  pub balance :
      (z : ℕ)
      → z < n.shape.zones
      → d.generation z + over_devices n.shape d.discharge (λ w. w == z) + inflow n.shape d.flow z
      ≡ d.served z + over_devices n.shape d.charge (λ w. w == z) + outflow n.shape d.flow z

-- the order in which zones are served: file order
abbrev pub serving_order : ShapeParts → List ℕ
serving_order s = range_with_len 0 s.zones

-- the zones that don't stand after a zone in the serving order
abbrev pub not_after : ShapeParts → ℕ → NumberSet
not_after s z = λ j. nat_le j z

-- the zones that the first so many places of the serving order hold
abbrev pub first_served : ShapeParts → ℕ → NumberSet
first_served s count = λ j. nat_lt j count

-- the load of a zone that isn't served
abbrev pub unserved_at : NetworkParts → Dispatch → ℕ → ℕ
unserved_at n d z = load_at n z - d.served z

-- the load that isn't served, over all zones
abbrev pub total_unserved : NetworkParts → Dispatch → ℕ
total_unserved n d = over_zones n.shape (unserved_at n d) (λ z. true)

-- the part of a device's charge cap that isn't used
abbrev pub uncharged_at : NetworkParts → Dispatch → ℕ → ℕ
uncharged_at n d k = charge_cap_at n k - d.charge k

-- what dispatches are compared by: unserved load by zone in serving order, then discharge from the last device to
-- the first, then unused charge cap from the first device to the last
abbrev pub compared_list : NetworkParts → Dispatch → List ℕ
compared_list n d =
    map (unserved_at n d) (serving_order n.shape)
    ++ map d.discharge (reverse (range_with_len 0 (device_count n.shape)))
    ++ map (uncharged_at n d) (range_with_len 0 (device_count n.shape))

-- dictionary order: at the first place where two lists differ, the first list has less
abbrev pub Precedes : List ℕ → List ℕ → Type 0
Precedes [] _ = ⊥
Precedes (x ∷ xs) [] = ⊥
Precedes (x ∷ xs) (y ∷ ys) = (x < y) ⊎ ((x ≡ y) × Precedes xs ys)

-- one dispatch is better than another where its list comes before the other's
abbrev pub IsBetter : NetworkParts → Dispatch → Dispatch → Type 0
IsBetter n d other = Precedes (compared_list n d) (compared_list n other)

-- a dispatch is best where it is feasible and no feasible dispatch is better
pub record IsBest (n : NetworkParts) (d : Dispatch) : Type 0 where
  pub feasible : IsFeasible n d
  pub none_better : (other : Dispatch) → IsFeasible n other → ¬ IsBetter n other d
