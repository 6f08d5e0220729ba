use Rattle.std.proofs.Common.{refl, sym, ap, ◌∙◌}
use Rattle.adequacy.specs.CommandWords.{is_console}
use Rattle.adequacy.specs.LineParts.{LineParts}
use Rattle.adequacy.proofs.LeavesLemmas.{waiting_left, waiting_run}
use Rattle.adequacy.proofs.RunLemmas.{line_ran}
use Rattle.adequacy.proofs.top.run_line.Goals as goal

pub returns-then-waits-clause-recorders : goal.returns-then-waits-clause-recorders
returns-then-waits-clause-recorders g c =
    waiting_left g.R.Recorder.seen g.R.Recorder.refusals _ c.args.line.now _ _ _ _ _ _ _ _ _ _ _ _ (search) c.run_waiting.ensures.run

pub returns-then-waits-clause-run : goal.returns-then-waits-clause-run
returns-then-waits-clause-run g c =
    line_ran _ c.args.line.now _ _ _ _ _ _ _ _ _ _ _ _
    (ap (λ (l : LineParts). is_console l.command) (sym c.line.view_is) ∙ (sym c.is_console.ensures ∙ c.if-is_console.false))
    (record { left = refl; heard = refl; reads = refl })
    (waiting_run _ c.args.line.now _ _ _ _ _ _ _ _ _ _ _ _ (search) c.run_waiting.ensures.run)
