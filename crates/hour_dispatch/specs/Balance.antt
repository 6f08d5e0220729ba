-- what stands in every zone while an hour is dispatched
use Rattle.std.specs.Prelude.{◌≡◌, ℕ, ◌+◌, ◌<◌, ◌==◌}
use Rattle.zone_network.specs.Network.{NetworkParts, inflow, outflow, over_devices, supply_at}
use Rattle.transfer_flow.specs.Flow.{FlowParts, flow_at, spare_at, IsWithinLimits}

-- each flow is within its limits, and in each zone what is there, what its devices give and what comes in is served,
-- still to spare, charged, or goes out
pub record IsInBalance (n : NetworkParts) (f : FlowParts) (served given charge : ℕ → ℕ) : Type 0 where
  pub shape : f.shape ≡ n.shape
  pub limits : IsWithinLimits n f
  pub balance :
      (z : ℕ)
      → z < n.shape.zones
      → supply_at n z + over_devices n.shape given (λ w. w == z) + inflow n.shape (flow_at f) z
      ≡ served z + spare_at f z + over_devices n.shape charge (λ w. w == z) + outflow n.shape (flow_at f) z
