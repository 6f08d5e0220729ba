use Rattle.std.proofs.Common.{◌≡◌, map, length}
use Rattle.sample_run.specs.Ready.{IsReady}
use Rattle.sample_run.proofs.TraceRuns.{IsTraced}
use Rattle.sample_run.proofs.runner.Runner.trace.Given as goal

-- the hours so far have run, and the recorders have their lines
abbrev pub invariant-loop-hour : goal.invariant-loop-hour
invariant-loop-hour g l =
    record {
      ready : IsReady l.self-inside.hours.system l.self-inside.result;
      traced : IsTraced l.fn.self.system l.fn.self.seed l.sample l.self-inside.hours l._hour (map g.R.Recorder.seen l.fn.recorders) (map g.R.Recorder.seen l.recorders);
      counts : map g.R.Recorder.refusals l.recorders ≡ map g.R.Recorder.refusals l.fn.recorders;
      size : length l.recorders ≡ length l.fn.recorders;
    }
