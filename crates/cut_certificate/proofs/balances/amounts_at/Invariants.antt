use Rattle.std.proofs.Common.{◌≡◌, ◌*◌, ◌≤◌, ◌==◌, slice_index}
use Rattle.zone_network.specs.Sums.{sum_where}
use Rattle.zone_network.specs.Network.{zone_of_device}
use Rattle.cut_certificate.proofs.balances.amounts_at.Given as goal

abbrev pub invariant-loop-k : goal.invariant-loop-k
invariant-loop-k l = record {
  value : l.sum ≡ sum_where (λ k. zone_of_device l.net.shape k == l.zone) (slice_index l.amounts) l.k;
  most : l.sum ≤ 4294967295 * l.k;
}
