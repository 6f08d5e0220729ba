use Rattle.std.proofs.Common.{◌≡◌, ◌<◌, ◌^◌, All, length}
use Rattle.network_tests.proofs.of_cut_certificate.put_masks.Given as goal

abbrev pub invariant-loop-i : goal.invariant-loop-i
invariant-loop-i g l = record {
  size : length l.sets ≡ length l.fn.sets;
  masks : All (λ mask. mask < 2 ^ l.zones) l.sets;
}
