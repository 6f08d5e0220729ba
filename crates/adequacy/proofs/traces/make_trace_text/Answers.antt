use Rattle.std.proofs.Common.{List, Ok, Err, map, ap, arith, ◌∙◌}
use Rattle.adequacy.specs.Traces.{texts}
use Rattle.adequacy.proofs.TraceLemmas.{traced_size, written_back, trace_made, trace_unmade, trace_stopped}
use Rattle.adequacy.proofs.traces.make_trace_text.Goals as goal

pub returns-in-Ok-texts_of : goal.returns-in-Ok-texts_of
returns-in-Ok-texts_of g c =
    let lent = c.deref_mut.ensures.value in
    let size = traced_size g.R.Recorder.seen g.R.Recorder.refusals c.args.system.now c.args.terms.seed c.args.terms.sample (Ok tt) _ _ c.in-Ok.ensures in
    let whole = written_back c.keep_chosen.new.recorders.items _ c.trace.new.recorders c.keep_chosen.new.recorders.len (omega arith) lent size in
    let there = c.in-Ok-texts_of.ensures ∙ ap (λ (all : List _). texts (map g.R.Recorder.seen all)) (c.deref.ensures.value ∙ whole) in
    rw whole
    (trace_made g.R.Recorder.seen g.R.Recorder.refusals c.args.system.now c.args.terms _ c.deref_mut.result.now
    c.trace.new.recorders _ (lent ∙ c.keep_chosen.ensures) c.in-Ok.ensures there)

pub returns-in-Err-texts_of : goal.returns-in-Err-texts_of
returns-in-Err-texts_of g c =
    let lent = c.deref_mut.ensures.value in
    let size = traced_size g.R.Recorder.seen g.R.Recorder.refusals c.args.system.now c.args.terms.seed c.args.terms.sample (Ok tt) _ _ c.in-Ok.ensures in
    let whole = written_back c.keep_chosen.new.recorders.items _ c.trace.new.recorders c.keep_chosen.new.recorders.len (omega arith) lent size in
    rw whole
    (trace_unmade g.R.Recorder.seen g.R.Recorder.refusals c.args.system.now c.args.terms _ c.deref_mut.result.now
    c.trace.new.recorders (lent ∙ c.keep_chosen.ensures) c.in-Ok.ensures)

pub returns-in-Err : goal.returns-in-Err
returns-in-Err g c =
    let lent = c.deref_mut.ensures.value in
    let size = traced_size g.R.Recorder.seen g.R.Recorder.refusals c.args.system.now c.args.terms.seed c.args.terms.sample (Err c.in-Err.error) _ _ c.in-Err.ensures in
    let whole = written_back c.keep_chosen.new.recorders.items _ c.trace.new.recorders c.keep_chosen.new.recorders.len (omega arith) lent size in
    rw whole
    (trace_stopped g.R.Recorder.seen g.R.Recorder.refusals c.args.system.now c.args.terms c.in-Err.error _
    c.deref_mut.result.now c.trace.new.recorders (lent ∙ c.keep_chosen.ensures) c.in-Err.ensures)
