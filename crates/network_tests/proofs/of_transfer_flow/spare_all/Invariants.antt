use Rattle.std.proofs.Common.{◌≡◌}
use Rattle.transfer_flow.specs.Flow.{IsWithinLimits}
use Rattle.network_tests.proofs.of_transfer_flow.spare_all.Given as goal

abbrev pub invariant-loop-zone : goal.invariant-loop-zone
invariant-loop-zone g l =
    record {
      shape : l.flow.shape ≡ l.net.shape;
      limits : IsWithinLimits l.net l.flow;
    }
