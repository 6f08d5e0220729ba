use Rattle.std.proofs.Common.{◌≡◌}
use Rattle.sample_run.proofs.RangeSteps.{IsAdded}
use Rattle.sample_run.proofs.runner.Runner.totals_of.Given as goal

-- the samples so far were added, and the runner is the same
abbrev pub invariant-loop-sample : goal.invariant-loop-sample
invariant-loop-sample l =
    record {
      runner : l.self ≡ l.fn.self;
      added : IsAdded l.fn.self.system l.fn.self.seed l.first l.sample l.totals;
    }
