use Rattle.std.proofs.Common.{◌≡◌, ◌*◌, ◌≤◌}
use Rattle.ra_base.specs.declared.limits.TheConstants.{MOST_LINK_MW}
use Rattle.zone_network.specs.Sums.{inside, sum_where}
use Rattle.zone_network.specs.Network.{supply_at}
use Rattle.cut_certificate.proofs.sums.supply_of.Given as goal

abbrev pub invariant-loop-z : goal.invariant-loop-z
invariant-loop-z l = record {
  value : l.sum ≡ sum_where (inside l.mask) (supply_at l.net) l.z;
  most : l.sum ≤ MOST_LINK_MW * l.z;
}
