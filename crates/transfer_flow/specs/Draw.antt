-- what a search for spare amounts needs, and what it has done
use Rattle.std.specs.Prelude.{◌≡◌, ◌≢◌, ℕ, ◌+◌, ◌-◌, ◌*◌, ◌<◌, ◌≤◌, ◌^◌, ◌⊎◌, IsTrue, Bool, true, not, List, length}
use Rattle.ra_base.specs.declared.limits.TheConstants.{MOST_LINK_MW}
use Rattle.zone_network.specs.Sums.{inside}
use Rattle.zone_network.specs.Network.{NetworkParts, link_count, from_zone, to_zone}
use Rattle.transfer_flow.specs.Flow.{FlowParts, flow_at, spare_at, carried, IsWithinLimits, Moves}
use Rattle.transfer_flow.specs.Reach.{room, way, start_of, end_of}

-- where a link has room towards this zone, or away from it, its other zone was seen
pub record IsEntered (n : NetworkParts) (f : FlowParts) (towards : Bool) (seen z l : ℕ) : Type 0 where
  pub ways :
      (forward : Bool)
      → end_of n.shape l forward ≡ z
      → 0 < room n f l (way towards forward)
      → IsTrue (inside seen (start_of n.shape l forward))

-- a zone has nothing to give, and is entered from zones that were seen alone
pub record IsDry (n : NetworkParts) (f : FlowParts) (seen z : ℕ) : Type 0 where
  pub spare : spare_at f z ≡ 0
  pub links : (l : ℕ) → l < link_count n.shape → IsEntered n f true seen z l

-- what stands before zones that weren't seen are searched for what a zone asks
pub record CanDraw (n : NetworkParts) (f : FlowParts) (zone seen asked : ℕ) : Type 0 where
  pub shape : f.shape ≡ n.shape
  pub limits : IsWithinLimits n f
  pub zone_seen : IsTrue (inside seen zone)
  pub among : seen < 2 ^ n.shape.zones
  pub some : 0 < asked

-- where no zone has a number of steps a search goes any way; else only on to zones that lie more steps away
abbrev pub IsUnbound : List ℕ → Type 0
IsUnbound steps = length steps ≡ 0

-- what such a search has done: it moved some of what was asked, left links between zones that were seen before as
-- they were, and where it moved nothing and was bound by no steps it found each zone that it saw dry
pub record Draws (n : NetworkParts) (old new : FlowParts) (steps : List ℕ) (zone before after asked drawn : ℕ) : Type 0 where
  pub shape : new.shape ≡ n.shape
  pub limits : IsWithinLimits n new
  pub moves : Moves n.shape old new zone drawn
  pub most : drawn ≤ asked
  pub grown : (z : ℕ) → IsTrue (inside before z) → IsTrue (inside after z)
  pub above : before ≤ after
  pub among : after < 2 ^ n.shape.zones
  pub kept :
      (l : ℕ)
      → l < link_count n.shape
      → IsTrue (inside before (from_zone n.shape l))
      → IsTrue (inside before (to_zone n.shape l))
      → flow_at new l ≡ flow_at old l
  pub still : drawn ≡ 0 → new ≡ old
  pub dry : IsUnbound steps → drawn ≡ 0 → (z : ℕ) → IsTrue (inside after z) → IsTrue (inside before z) ⊎ IsDry n old after z

-- a link carries so much more one way
pub record Carries (old new : FlowParts) (link : ℕ) (forward : Bool) (by : ℕ) : Type 0 where
  pub shape : new.shape ≡ old.shape
  pub spares : new.spares ≡ old.spares
  pub along :
      carried (flow_at new link) forward
      ≡ carried (flow_at old link) forward + (by - carried (flow_at old link) (not forward))
  pub against : carried (flow_at new link) (not forward) ≡ carried (flow_at old link) (not forward) - by
  pub others : (l : ℕ) → l ≢ link → flow_at new l ≡ flow_at old l

-- the flow of a link is small enough to be moved
pub record IsMovable (f : FlowParts) (link : ℕ) (forward : Bool) (by : ℕ) : Type 0 where
  pub place : link < link_count f.shape
  pub along : carried (flow_at f link) forward ≤ MOST_LINK_MW
  pub against : carried (flow_at f link) (not forward) ≤ MOST_LINK_MW
  pub amount : by ≤ 2 * MOST_LINK_MW
