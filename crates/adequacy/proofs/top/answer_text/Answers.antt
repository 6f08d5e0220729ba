use Rattle.std.proofs.Common.{refl}
use Rattle.adequacy.specs.Traces.{trace_of}
use Rattle.adequacy.proofs.LeavesLemmas.{left_alone, other_answer, other_left, other_request, text_of_trace}
use Rattle.adequacy.proofs.top.answer_text.Goals as goal

pub returns-in-Trace : goal.returns-in-Trace
returns-in-Trace g c =
    rw c.in-Trace.is
    (text_of_trace g.R.Recorder.seen g.R.Recorder.refusals _ c.in-Trace.terms _ _ _ c.make_trace_text.ensures)

pub make_answer-requires-clause-other : goal.make_answer-requires-clause-other
make_answer-requires-clause-other g c = other_request _ c.in_default.not-Trace

pub returns-in-Ok : goal.returns-in-Ok
returns-in-Ok g c =
    let other = other_request c.args.request c.in_default.not-Trace in (
      other_answer c.args.request _ _ _ other c.in-Ok.ensures,
      other_left g.R.Recorder.seen g.R.Recorder.refusals (trace_of c.args.request) _ other,
    )

pub returns-in-Err : goal.returns-in-Err
returns-in-Err g c = left_alone g.R.Recorder.seen g.R.Recorder.refusals (trace_of c.args.request) _ _ refl
