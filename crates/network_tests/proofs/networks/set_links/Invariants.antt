use Rattle.std.proofs.Common.{◌≡◌}
use Rattle.network_tests.proofs.networks.set_links.Given as goal

abbrev pub invariant-loop-link : goal.invariant-loop-link
invariant-loop-link g l = l.net.shape ≡ l.fn.net.shape
