use Rattle.std.proofs.Common.{◌≡◌, ◌++◌, map, take, drop}
use Rattle.sample_totals.specs.Recorders.{with_line}
use Rattle.sample_run.proofs.traces.give_hour.Given as goal

-- the recorders so far have the hour's line, and no count has risen
abbrev pub invariant-loop-at : goal.invariant-loop-at
invariant-loop-at g l =
    let seen = map g.R.Recorder.seen in
    record {
      lines : seen l.recorders ≡ map (with_line l.outcome) (take l.at (seen l.fn.recorders)) ++ drop l.at (seen l.fn.recorders);
      counts : map g.R.Recorder.refusals l.recorders ≡ map g.R.Recorder.refusals l.fn.recorders;
    }
