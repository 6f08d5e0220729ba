use Rattle.adequacy.proofs.ReportLemmas.{run_told}
use Rattle.adequacy.proofs.waiting.run_waiting.Goals as goal

pub returns-in-Err-clause-run : goal.returns-in-Err-clause-run
returns-in-Err-clause-run g c =
    run_told _ c.args.line.now _ c.in-Err.failure _ _ _ _ _ _ _ _ _ _ _ c.in-Err.ensures.reads.0 c.in-Err.ensures.reads.1 c.in-Err.ensures.reads.2 c.report.ensures
