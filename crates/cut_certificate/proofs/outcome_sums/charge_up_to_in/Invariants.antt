use Rattle.std.proofs.Common.{◌≡◌, ◌*◌, ◌≤◌, slice_index}
use Rattle.zone_network.specs.Sums.{inside, sum_where}
use Rattle.zone_network.specs.Network.{zone_of_device}
use Rattle.cut_certificate.specs.Chain.{up_to}
use Rattle.cut_certificate.proofs.outcome_sums.charge_up_to_in.Given as goal

abbrev pub invariant-loop-k : goal.invariant-loop-k
invariant-loop-k l = record {
  value :
      l.sum ≡ sum_where (λ k. inside l.mask (zone_of_device l.net.shape k)) (up_to (slice_index l.charge) l.last) l.k;
  most : l.sum ≤ 4294967295 * l.k;
}
