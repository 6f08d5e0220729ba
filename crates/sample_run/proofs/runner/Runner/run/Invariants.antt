use Rattle.sample_run.proofs.RunSteps.{IsAt}
use Rattle.sample_run.proofs.runner.Runner.run.Given as goal

-- the hours so far have run
abbrev pub invariant-loop-hour : goal.invariant-loop-hour
invariant-loop-hour l = IsAt l.fn.self.system l.fn.self.seed l.sample l.self-inside.hours l.self-inside.result l._hour
