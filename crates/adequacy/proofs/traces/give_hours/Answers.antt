use Rattle.adequacy.proofs.TraceLemmas.{traced_all, traced_part}
use Rattle.adequacy.proofs.traces.give_hours.Goals as goal

pub returns-in-Ok : goal.returns-in-Ok
returns-in-Ok g c =
    traced_all g.R.Recorder.seen g.R.Recorder.refusals _ _ _ _ _ c.in-Ok.ensures.ok c.in-Ok.ensures.ok_counts

pub returns-in-Err : goal.returns-in-Err
returns-in-Err g c =
    rw c.text_error.ensures
    (traced_part g.R.Recorder.seen g.R.Recorder.refusals _ _ _ c.in-Err.error _ _
    c.in-Err.ensures.err c.in-Err.ensures.err_place c.in-Err.ensures.err_counts)
