use Rattle.adequacy.specs.Requests.{request_of}
use Rattle.adequacy.specs.Traces.{trace_of}
use Rattle.adequacy.proofs.LeavesLemmas.{left_told}
use Rattle.adequacy.proofs.ReportLemmas.{run_told}
use Rattle.adequacy.proofs.top.answer.Goals as goal

pub returns-in-Err-clause-run : goal.returns-in-Err-clause-run
returns-in-Err-clause-run g c =
    run_told _ c.args.line.now _ c.in-Err.failure _ _ _ _ _ _ _ _ _ _ _ c.in-Err.ensures.reads.0 c.in-Err.ensures.reads.1 c.in-Err.ensures.reads.2 c.report.ensures

pub returns-in-Err-clause-recorders : goal.returns-in-Err-clause-recorders
returns-in-Err-clause-recorders g c =
    left_told g.R.Recorder.seen g.R.Recorder.refusals (trace_of (request_of c.args.line.now)) c.in-Err.failure _ _ _ _ _ _ _ c.in-Err.ensures.recorders c.report.ensures
