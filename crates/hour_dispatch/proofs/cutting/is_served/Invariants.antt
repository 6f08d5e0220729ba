use Rattle.std.proofs.Common.{◌≡◌, true, get_or}
use Rattle.zone_network.specs.Sums.{sum_where}
use Rattle.hour_dispatch.proofs.cutting.is_served.Given as goal

abbrev pub invariant-loop-zone : goal.invariant-loop-zone
invariant-loop-zone l = sum_where (λ z. true) (λ z. get_or l.unserved z 0) l.zone ≡ 0
