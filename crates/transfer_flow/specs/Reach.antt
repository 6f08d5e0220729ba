-- room along links, and the zones that are reached along it
use Rattle.std.specs.Prelude.{◌≡◌, ℕ, ◌+◌, ◌-◌, ◌<◌, ◌^◌, IsTrue, Bool, true, false, not, if◌then◌else◌}
use Rattle.zone_network.specs.Sums.{NumberSet, inside}
use Rattle.zone_network.specs.Network.{ShapeParts, NetworkParts, link_count, from_zone, to_zone}
use Rattle.transfer_flow.specs.Flow.{FlowParts, flow_at, spare_at, carried, limit_at}

-- A link goes two ways, forward and backward.

-- the zone that a link leaves one way, and the one that it enters
abbrev pub start_of : ShapeParts → ℕ → Bool → ℕ
start_of s l forward = if forward then from_zone s l else to_zone s l

abbrev pub end_of : ShapeParts → ℕ → Bool → ℕ
end_of s l forward = if forward then to_zone s l else from_zone s l

-- how much more a link can carry one way
abbrev pub room : NetworkParts → FlowParts → ℕ → Bool → ℕ
room n f l forward =
    limit_at n l forward - carried (flow_at f l) forward + carried (flow_at f l) (not forward)

-- the same way, or the other one
abbrev pub way : Bool → Bool → Bool
way towards forward = if towards then forward else not forward

-- a set of zones that no link with room enters from outside, or, where `towards` is false, that none leaves
pub record IsClosed (n : NetworkParts) (f : FlowParts) (towards : Bool) (zones : NumberSet) : Type 0 where
  pub through :
      (l : ℕ) (forward : Bool)
      → l < link_count n.shape
      → 0 < room n f l (way towards forward)
      → IsTrue (zones (end_of n.shape l forward))
      → IsTrue (zones (start_of n.shape l forward))

-- a zone reaches the goal along links with room: every set that holds the goal and that no link with room enters
-- from outside holds the zone
abbrev pub Reaches : NetworkParts → FlowParts → ℕ → ℕ → Type 0
Reaches n f z goal = (zones : NumberSet) → IsClosed n f true zones → IsTrue (zones goal) → IsTrue (zones z)

-- the mask of the zones that reach the goal: the least set that holds the goal and that no link with room enters
pub record IsReachTo (n : NetworkParts) (f : FlowParts) (goal mask : ℕ) : Type 0 where
  pub among : mask < 2 ^ n.shape.zones
  pub itself : IsTrue (inside mask goal)
  pub closed : IsClosed n f true (inside mask)
  pub least : (z : ℕ) → IsTrue (inside mask z) → Reaches n f z goal

-- the mask of the zones that a mask reaches: the least set that holds the mask's zones and that no link with room
-- leaves
pub record IsReachFrom (n : NetworkParts) (f : FlowParts) (start mask : ℕ) : Type 0 where
  pub among : mask < 2 ^ n.shape.zones
  pub itself : (z : ℕ) → IsTrue (inside start z) → IsTrue (inside mask z)
  pub closed : IsClosed n f false (inside mask)
  pub least :
      (zones : NumberSet)
      → IsClosed n f false zones
      → ((z : ℕ) → IsTrue (inside start z) → IsTrue (zones z))
      → (z : ℕ)
      → IsTrue (inside mask z)
      → IsTrue (zones z)

-- a mask whose zones, the goal among them, have nothing to give, and that no link with room enters
pub record IsUsedUp (n : NetworkParts) (f : FlowParts) (goal mask : ℕ) : Type 0 where
  pub among : mask < 2 ^ n.shape.zones
  pub itself : IsTrue (inside mask goal)
  pub closed : IsClosed n f true (inside mask)
  pub spare : (z : ℕ) → IsTrue (inside mask z) → spare_at f z ≡ 0
