use Rattle.std.proofs.Common.{◌≡◌, ◌*◌, ◌≤◌, ◌&&◌}
use Rattle.ra_base.specs.declared.limits.TheConstants.{MOST_LINK_MW}
use Rattle.zone_network.specs.Sums.{inside, sum_where}
use Rattle.zone_network.specs.Dispatch.{not_after}
use Rattle.cut_certificate.specs.Chain.{served_but}
use Rattle.cut_certificate.proofs.outcome_sums.served_not_after.Given as goal

abbrev pub invariant-loop-z : goal.invariant-loop-z
invariant-loop-z l = record {
  value : l.sum ≡ sum_where (λ j. inside l.mask j && not_after l.net.shape l.last j) (served_but l.net l.unserved) l.z;
  most : l.sum ≤ MOST_LINK_MW * l.z;
}
