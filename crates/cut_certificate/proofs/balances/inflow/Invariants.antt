use Rattle.std.proofs.Common.{◌≡◌, ◌+◌, ◌*◌, ◌≤◌, ◌==◌}
use Rattle.zone_network.specs.Sums.{sum_where}
use Rattle.zone_network.specs.Network.{from_zone, to_zone, forward_of, backward_of}
use Rattle.cut_certificate.specs.Chain.{flow_at}
use Rattle.cut_certificate.proofs.balances.inflow.Given as goal

abbrev pub invariant-loop-l : goal.invariant-loop-l
invariant-loop-l l = record {
  value :
      l.sum
      ≡ sum_where (λ i. to_zone l.net.shape i == l.zone) (λ i. forward_of (flow_at l.flows i)) l.l
      + sum_where (λ i. from_zone l.net.shape i == l.zone) (λ i. backward_of (flow_at l.flows i)) l.l;
  most : l.sum ≤ 2147483648 * l.l;
}
