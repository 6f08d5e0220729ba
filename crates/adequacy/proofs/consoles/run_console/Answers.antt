use Rattle.adequacy.specs.Requests.{console_terms}
use Rattle.adequacy.specs.Sources.{made_number, system_outcome}
use Rattle.adequacy.proofs.ConsoleLemmas.{console_ran}
use Rattle.adequacy.proofs.ReportLemmas.{told_of_console}
use Rattle.adequacy.proofs.consoles.run_console.Goals as goal

pub returns-in-Err-clause-run : goal.returns-in-Err-clause-run
returns-in-Err-clause-run g c seen =
    let told = told_of_console (console_terms c.args.line.now) (system_outcome (made_number c.args.line.now) c.in-Err.ensures.ends.0) c.in-Err.failure _ _ _ _ _ _ _ c.in-Err.ensures.ends.2 c.report.ensures in
    record {
      tables = c.in-Err.ensures.ends.0;
      ending = told.0;
      read = c.in-Err.ensures.ends.1;
      ended = console_ran c.args.line.now seen _ told.0 _ _ c.requires.console told.1;
      told = told.2;
    }
