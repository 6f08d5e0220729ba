use Rattle.std.proofs.Common.{◌≡◌, ◌*◌, ◌≤◌}
use Rattle.ra_base.specs.declared.limits.TheConstants.{MOST_LINK_MW}
use Rattle.zone_network.specs.Sums.{inside, sum_where}
use Rattle.zone_network.specs.Network.{zone_of_device, discharge_cap_at}
use Rattle.cut_certificate.proofs.sums.discharge_caps_of.Given as goal

abbrev pub invariant-loop-k : goal.invariant-loop-k
invariant-loop-k l = record {
  value : l.sum ≡ sum_where (λ k. inside l.mask (zone_of_device l.net.shape k)) (discharge_cap_at l.net) l.k;
  most : l.sum ≤ MOST_LINK_MW * l.k;
}
