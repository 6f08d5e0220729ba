use Rattle.adequacy.specs.Traces.{trace_of}
use Rattle.adequacy.proofs.LeavesLemmas.{left_written}
use Rattle.adequacy.proofs.top.write_answer.Goals as goal

pub returns-in-Ok-clause-recorders : goal.returns-in-Ok-clause-recorders
returns-in-Ok-clause-recorders g c =
    left_written g.R.Recorder.seen g.R.Recorder.refusals (trace_of c.args.request) _ _ _ _ _ _ c.in-Ok.ensures.1 c.write_text.ensures.written
