use Rattle.std.proofs.Common.{nat_lt}
use Rattle.transfer_flow.specs.Flow.{spare_at}
use Rattle.hour_dispatch.specs.Stages.{IsMaskOf}
use Rattle.hour_dispatch.proofs.cutting.zones_with_spare.Given as goal

abbrev pub invariant-loop-zone : goal.invariant-loop-zone
invariant-loop-zone l = IsMaskOf l.zone (λ z. nat_lt 0 (spare_at l.flow z)) l.mask
