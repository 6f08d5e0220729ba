use Rattle.std.proofs.Common.{◌≡◌, ◌*◌, ◌≤◌}
use Rattle.ra_base.specs.declared.limits.TheConstants.{MOST_LINK_MW}
use Rattle.zone_network.specs.Sums.{inside, sum_where}
use Rattle.zone_network.specs.Network.{load_at}
use Rattle.cut_certificate.proofs.sums.load_of.Given as goal

abbrev pub invariant-loop-z : goal.invariant-loop-z
invariant-loop-z l = record {
  value : l.sum ≡ sum_where (inside l.mask) (load_at l.net) l.z;
  most : l.sum ≤ MOST_LINK_MW * l.z;
}
