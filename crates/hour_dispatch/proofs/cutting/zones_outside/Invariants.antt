use Rattle.std.proofs.Common.{not}
use Rattle.zone_network.specs.Sums.{inside}
use Rattle.hour_dispatch.specs.Stages.{IsMaskOf}
use Rattle.hour_dispatch.proofs.cutting.zones_outside.Given as goal

abbrev pub invariant-loop-zone : goal.invariant-loop-zone
invariant-loop-zone l = IsMaskOf l.zone (λ z. not (inside l.mask z)) l.outside
