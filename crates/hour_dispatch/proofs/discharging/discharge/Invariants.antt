use Rattle.std.proofs.Common.{◌≡◌}
use Rattle.cut_certificate.specs.Chain.{served_in}
use Rattle.hour_dispatch.specs.Stages.{IsSpared, Keeps}
use Rattle.hour_dispatch.proofs.discharging.discharge.Given as goal

abbrev pub invariant-loop-device : goal.invariant-loop-device
invariant-loop-device l =
    record {
      spared : IsSpared l.net l.flow (served_in l.net l.outcome) l.outcome.discharge l.sets l.device;
      stays : l.outcome ≡ record l.fn.outcome { discharge = l.outcome.discharge };
      kept : Keeps l.net.shape.zones l.fn.sets l.sets;
    }
