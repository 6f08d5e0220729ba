use Rattle.std.proofs.Common.{◌≡◌, ◌+◌}
use Rattle.zone_network.specs.Network.{device_count}
use Rattle.cut_certificate.specs.Chain.{served_in, discharge_in}
use Rattle.hour_dispatch.specs.Stages.{IsCharged, Keeps}
use Rattle.hour_dispatch.proofs.charging.charge.Given as goal

abbrev pub invariant-loop-device : goal.invariant-loop-device
invariant-loop-device l =
    record {
      charged : IsCharged l.net l.flow (served_in l.net l.outcome) (discharge_in l.outcome) l.outcome.charge l.sets l.device;
      stays : l.outcome ≡ record l.fn.outcome { charge = l.outcome.charge };
      kept : Keeps (l.net.shape.zones + device_count l.net.shape) l.fn.sets l.sets;
    }
