use Rattle.std.proofs.Common.{◌≡◌}
use Rattle.network_tests.proofs.networks.fill.Given as goal

abbrev pub invariant-loop-zone : goal.invariant-loop-zone
invariant-loop-zone g l = l.net.shape ≡ l.fn.net.shape

abbrev pub invariant-loop-device : goal.invariant-loop-device
invariant-loop-device g l = l.net.shape ≡ l.fn.net.shape
