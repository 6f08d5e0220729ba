use Rattle.std.proofs.Common.{◌≡◌, ◌+◌, ◌*◌, ◌≤◌}
use Rattle.ra_base.specs.declared.limits.TheConstants.{MOST_LINK_MW}
use Rattle.zone_network.specs.Sums.{inside, sum_where}
use Rattle.zone_network.specs.Network.{enters_forward, enters_backward, forward_at, backward_at}
use Rattle.cut_certificate.proofs.sums.into.Given as goal

abbrev pub invariant-loop-l : goal.invariant-loop-l
invariant-loop-l l = record {
  value :
      l.sum
      ≡ sum_where (enters_forward l.net.shape (inside l.mask)) (forward_at l.net) l.l
      + sum_where (enters_backward l.net.shape (inside l.mask)) (backward_at l.net) l.l;
  most : l.sum ≤ MOST_LINK_MW * l.l;
}
