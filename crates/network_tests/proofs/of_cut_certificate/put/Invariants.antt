use Rattle.std.proofs.Common.{◌≡◌, length}
use Rattle.network_tests.proofs.of_cut_certificate.put.Given as goal

abbrev pub invariant-loop-i : goal.invariant-loop-i
invariant-loop-i g l = length l.amounts ≡ length l.fn.amounts
