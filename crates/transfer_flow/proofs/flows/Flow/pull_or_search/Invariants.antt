use Rattle.std.proofs.Common.{◌-◌}
use Rattle.transfer_flow.proofs.DrawLemmas.{PullsSoFar}
use Rattle.transfer_flow.proofs.flows.Flow.pull_or_search.Given as goal

abbrev pub invariant-loop-moved : goal.invariant-loop-moved
invariant-loop-moved l = PullsSoFar l.net l.fn.self l.self l.goal l.most l.moved

abbrev pub decreases-loop-moved : goal.decreases-loop-moved
decreases-loop-moved l = l.most - l.moved
