use Rattle.adequacy.specs.Requests.{request_of}
use Rattle.adequacy.specs.Traces.{trace_of}
use Rattle.adequacy.proofs.LeavesLemmas.{left_unread}
use Rattle.adequacy.proofs.top.run.Goals as goal

pub returns-in-Err-clause-recorders : goal.returns-in-Err-clause-recorders
returns-in-Err-clause-recorders g c =
    rw c.folder_failure.ensures
    (left_unread g.R.Recorder.seen g.R.Recorder.refusals (trace_of (request_of c.args.line.now)) c.in-Err.error _)
