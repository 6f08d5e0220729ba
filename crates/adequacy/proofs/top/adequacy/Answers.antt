use Rattle.adequacy.specs.Requests.{request_of}
use Rattle.adequacy.proofs.LeavesLemmas.{failed_left, unless_refused}
use Rattle.adequacy.proofs.TopLemmas.{same_line, runs_on, failed_on, answered_by, not_written, refused_by}
use Rattle.adequacy.proofs.top.adequacy.Goals as goal

pub returns-in-Ok-clause-told : goal.returns-in-Ok-clause-told
returns-in-Ok-clause-told g c line stored asks told =
    runs_on _ stored line _ _ _ _ _ _ _ _ _ _ _ _ told (rw (same_line c.in-Ok.ensures.asked asks) at c.run_line.ensures.run)

pub returns-in-Ok-clause-answered : goal.returns-in-Ok-clause-answered
returns-in-Ok-clause-answered g c line stored system asks told spells no_shelf no_read no_write no_refusal =
    unless_refused g.R.Recorder.seen g.R.Recorder.refusals (request_of line) _ _ _
    (answered_by stored line _ system _ _ _ _ _ _ _ _ _
    (runs_on _ stored line _ _ _ _ _ _ _ _ _ _ _ _ told (rw (same_line c.in-Ok.ensures.asked asks) at c.run_line.ensures.run))
    spells no_shelf no_read (not_written _ _ _ c.run_line.ensures.write_fault no_write))
    (rw (same_line c.in-Ok.ensures.asked asks) at c.run_line.ensures.recorders) no_refusal

pub returns-in-Ok-clause-refused : goal.returns-in-Ok-clause-refused
returns-in-Ok-clause-refused g c line stored refusal asks told refused no_read =
    refused_by stored line _ refusal _ _ _ _ _ _ _ _ _
    (runs_on _ stored line _ _ _ _ _ _ _ _ _ _ _ _ told (rw (same_line c.in-Ok.ensures.asked asks) at c.run_line.ensures.run))
    refused no_read

pub returns-in-Ok-clause-recorders : goal.returns-in-Ok-clause-recorders
returns-in-Ok-clause-recorders g c line asks = rw (same_line c.in-Ok.ensures.asked asks) at c.run_line.ensures.recorders

pub returns-in-Err-clause-told : goal.returns-in-Err-clause-told
returns-in-Err-clause-told g c line stored asks told =
    failed_on _ stored line _ c.in-Err.failure _ _ _ _ _ _ _ c.in-Err.ensures.asked asks c.report.ensures

pub returns-in-Err-clause-recorders : goal.returns-in-Err-clause-recorders
returns-in-Err-clause-recorders g c line asks =
    failed_left g.R.Recorder.seen g.R.Recorder.refusals _ line c.in-Err.failure _ _ _ _ _ _ c.in-Err.ensures.asked asks c.report.ensures
