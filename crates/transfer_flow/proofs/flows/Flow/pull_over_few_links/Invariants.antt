use Rattle.std.proofs.Common.{◌-◌, ◌≡◌, ◌≤◌}
use Rattle.transfer_flow.specs.Flow.{IsWithinLimits, Moves}
use Rattle.transfer_flow.proofs.flows.Flow.pull_over_few_links.Given as goal

abbrev pub invariant-loop-moved : goal.invariant-loop-moved
invariant-loop-moved l =
    record {
      shape : l.self.shape ≡ l.net.shape;
      limits : IsWithinLimits l.net l.self;
      moves : Moves l.net.shape l.fn.self l.self l.goal l.moved;
      most : l.moved ≤ l.most;
    }

abbrev pub decreases-loop-moved : goal.decreases-loop-moved
decreases-loop-moved l = l.most - l.moved
