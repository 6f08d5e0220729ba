-- hours in which each zone's own supply is enough
use Rattle.std.specs.Prelude.{◌≡◌, ℕ, pos, ◌+◌, ◌<◌, ◌≤◌, ◌==◌, List, length, replicate, slice_index}
use Rattle.zone_network.specs.Network.{NetworkParts, over_devices, link_count, device_count, supply_at, load_at, charge_cap_at}
use Rattle.sample_totals.specs.declared.outcomes.HourOutcome.{HourOutcome}
use Rattle.cut_certificate.specs.declared.chains.Chain.{Chain}
use Rattle.hour_dispatch.specs.Stages.{set_count}

-- what a zone needs for itself: its load and the charge caps of its devices
abbrev pub need_at : NetworkParts → ℕ → ℕ
need_at n z = load_at n z + over_devices n.shape (charge_cap_at n) (λ w. w == z)

-- each zone's supply covers what it needs
pub record IsAmple (n : NetworkParts) : Type 0 where
  pub covered : (z : ℕ) → z < n.shape.zones → need_at n z ≤ supply_at n z

-- a list has what each zone needs
pub record AreNeeds (n : NetworkParts) (needs : List ℕ) : Type 0 where
  pub size : length needs ≡ n.shape.zones
  pub each : (z : ℕ) → z < n.shape.zones → slice_index needs z ≡ need_at n z

-- so many zeros
abbrev pub zeros : ℕ → List ℕ
zeros count = replicate count 0

-- the outcome of such an hour: all load is served without any discharge, and each device charges its cap
abbrev pub ample_outcome : NetworkParts → HourOutcome → HourOutcome
ample_outcome n outcome =
    record outcome {
      unserved = zeros n.shape.zones;
      discharge = zeros (device_count n.shape);
      charge = n.charge_caps;
      cut = 0;
    }

-- and its chain, where each zone generates what it needs: nothing flows, and each component is at its bound
abbrev pub ample_chain : NetworkParts → List ℕ → Chain
ample_chain n needs =
    record {
      flows = replicate (link_count n.shape) (pos 0);
      generation = needs;
      sets = zeros (set_count n.shape);
    }
