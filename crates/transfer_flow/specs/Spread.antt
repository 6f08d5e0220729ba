-- what a walk along links with room has seen
use Rattle.std.specs.Prelude.{◌≡◌, ℕ, ◌<◌, ◌≤◌, ◌^◌, ◌⊎◌, IsTrue, Bool}
use Rattle.zone_network.specs.Sums.{NumberSet, inside}
use Rattle.zone_network.specs.Network.{NetworkParts, link_count}
use Rattle.transfer_flow.specs.Flow.{FlowParts, IsWithinLimits}
use Rattle.transfer_flow.specs.Reach.{IsClosed}
use Rattle.transfer_flow.specs.Draw.{IsEntered}

-- every link with room leads to a zone, or from it, from zones that were seen alone
pub record IsPassed (n : NetworkParts) (f : FlowParts) (towards : Bool) (seen z : ℕ) : Type 0 where
  pub links : (l : ℕ) → l < link_count n.shape → IsEntered n f towards seen z l

-- what was seen grew by zones that such sets hold anyway, and each zone that is new was passed
pub record Spreads (n : NetworkParts) (f : FlowParts) (towards : Bool) (before after : ℕ) : Type 0 where
  pub among : after < 2 ^ n.shape.zones
  pub above : before ≤ after
  pub grown : (z : ℕ) → IsTrue (inside before z) → IsTrue (inside after z)
  pub passed : (z : ℕ) → IsTrue (inside after z) → IsTrue (inside before z) ⊎ IsPassed n f towards after z
  pub least :
      (zones : NumberSet)
      → IsClosed n f towards zones
      → ((z : ℕ) → IsTrue (inside before z) → IsTrue (zones z))
      → (z : ℕ)
      → IsTrue (inside after z)
      → IsTrue (zones z)

-- what stands before a walk goes on from a zone
pub record CanSpread (n : NetworkParts) (f : FlowParts) (zone seen : ℕ) : Type 0 where
  pub shape : f.shape ≡ n.shape
  pub limits : IsWithinLimits n f
  pub zone_seen : IsTrue (inside seen zone)
  pub among : seen < 2 ^ n.shape.zones
