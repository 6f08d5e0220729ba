use Rattle.std.proofs.Common.{◌≡◌, ◌*◌, ◌≤◌}
use Rattle.ra_base.specs.declared.limits.TheConstants.{MOST_LINK_MW}
use Rattle.zone_network.specs.Sums.{inside, sum_where}
use Rattle.cut_certificate.specs.Chain.{served_but}
use Rattle.cut_certificate.proofs.outcome_sums.served_in.Given as goal

abbrev pub invariant-loop-z : goal.invariant-loop-z
invariant-loop-z l = record {
  value : l.sum ≡ sum_where (inside l.mask) (served_but l.net l.unserved) l.z;
  most : l.sum ≤ MOST_LINK_MW * l.z;
}
