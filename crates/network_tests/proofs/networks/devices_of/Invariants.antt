use Rattle.std.proofs.Common.{◌≡◌, ◌<◌, vec_len}
use Rattle.std.specs.Prelude.{All}
use Rattle.network_tests.proofs.networks.devices_of.Given as goal

abbrev pub invariant-loop-zone : goal.invariant-loop-zone
invariant-loop-zone g l =
    record {
      among : All (λ zone. zone < l.zones) l.devices.items;
      count : vec_len l.devices ≡ l.zone-index;
    }
