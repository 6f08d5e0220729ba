use Rattle.std.proofs.Common.{◌≡◌, ℕ, ◌-◌, ◌<◌, length}
use Rattle.zone_network.specs.Network.{link_count, supply_at}
use Rattle.transfer_flow.specs.Flow.{flow_at, spare_at}
use Rattle.cut_certificate.specs.Chain.{generation_in, flow_in}
use Rattle.hour_dispatch.proofs.generating.generate.Given as goal

abbrev pub invariant-loop-zone : goal.invariant-loop-zone
invariant-loop-zone l =
    record {
      sets : l.chain.sets ≡ l.fn.chain.sets;
      flows_size : length l.chain.flows ≡ link_count l.net.shape;
      generation_size : length l.chain.generation ≡ l.net.shape.zones;
      generation : (z : ℕ) → z < l.zone → generation_in l.chain z ≡ supply_at l.net z - spare_at l.flow z;
    }

abbrev pub invariant-loop-link : goal.invariant-loop-link
invariant-loop-link l =
    record {
      sets : l.chain.sets ≡ l.fn.chain.sets;
      flows_size : length l.chain.flows ≡ link_count l.net.shape;
      generation_size : length l.chain.generation ≡ l.net.shape.zones;
      generation : (z : ℕ) → z < l.net.shape.zones → generation_in l.chain z ≡ supply_at l.net z - spare_at l.flow z;
      flows : (k : ℕ) → k < l.link → flow_in l.chain k ≡ flow_at l.flow k;
    }
