use Rattle.std.proofs.Common.{map, sym, ◌∙◌, arith}
use Rattle.std.proofs.lemmas.List.{length-map}
use Rattle.sample_run.proofs.TraceSteps.{same-at, line-at, counts-at}
use Rattle.sample_run.proofs.traces.give_hour.Goals as goal

pub returns-in-Err-Refused-clause-err : goal.returns-in-Err-Refused-clause-err
returns-in-Err-Refused-clause-err g c =
    same-at g.R.Recorder.seen c.loop-at.recorders c.loop-at.at c.index-recorders-at.result c.hour.new.self c.in-Err-Refused.ensures.err
    ∙ c.loop-at.invariant.lines

pub returns-in-Err-Refused-clause-err_counts : goal.returns-in-Err-Refused-clause-err_counts
returns-in-Err-Refused-clause-err_counts g c =
    counts-at g.R.Recorder.refusals _ c.loop-at.recorders (map g.R.Recorder.refusals c.args.recorders.now) c.loop-at.at c.index-recorders-at.result c.hour.new.self
    (omega (arith, c.loop-at-test.true, c.loop-at.auto.recorders)) c.loop-at.invariant.counts
    (rw c.in-Err-Refused.field-0-is at c.in-Err-Refused.ensures.refusals)

pub returns-in-Err-OutOfMemory-clause-err : goal.returns-in-Err-OutOfMemory-clause-err
returns-in-Err-OutOfMemory-clause-err g c =
    same-at g.R.Recorder.seen c.loop-at.recorders c.loop-at.at c.index-recorders-at.result c.hour.new.self c.in-Err-OutOfMemory.ensures.err
    ∙ c.loop-at.invariant.lines

pub returns-in-Err-OutOfMemory-clause-err_counts : goal.returns-in-Err-OutOfMemory-clause-err_counts
returns-in-Err-OutOfMemory-clause-err_counts g c =
    counts-at g.R.Recorder.refusals _ c.loop-at.recorders (map g.R.Recorder.refusals c.args.recorders.now) c.loop-at.at c.index-recorders-at.result c.hour.new.self
    (omega (arith, c.loop-at-test.true, c.loop-at.auto.recorders)) c.loop-at.invariant.counts
    (rw c.in-Err-OutOfMemory.field-0-is at c.in-Err-OutOfMemory.ensures.refusals)

pub loop-at-preserved : goal.loop-at-preserved
loop-at-preserved g c =
    record {
      lines =
          line-at g.R.Recorder.seen c.args.outcome.now c.loop-at.recorders (map g.R.Recorder.seen c.args.recorders.now) c.loop-at.at c.index-recorders-at.result c.hour.new.self
          (omega (arith, c.loop-at-test.true, c.loop-at.auto.recorders))
          (length-map c.args.recorders.now g.R.Recorder.seen ∙ sym c.loop-at.auto.recorders)
          c.loop-at.invariant.lines c.in-Ok.ensures.ok;
      counts =
          same-at g.R.Recorder.refusals c.loop-at.recorders c.loop-at.at c.index-recorders-at.result c.hour.new.self c.in-Ok.ensures.refusals
          ∙ c.loop-at.invariant.counts;
    }
