use Rattle.std.proofs.Common.{arith, sym, ◌∙◌}
use Rattle.std.proofs.lemmas.Result.{err_from_is_err_and}
use Rattle.adequacy.proofs.FolderLemmas.{reading_ends, reading_goes_on, ending_counted}
use Rattle.adequacy.proofs.tables.+read_tables.Goals as goal

pub returns-in_err-text-clause-reads : goal.returns-in_err-text-clause-reads
returns-in_err-text-clause-reads g t c =
    let p = err_from_is_err_and c.from_residual.result c.from_residual.ensures.1 in
    reading_ends _ _ _ _ c.read.result c.in_err-text.field-0.0 _ _ _ _ _ (omega arith) (sym c.outcome_of.ensures ∙ c.in_err-text.was) (cc) c.read.ensures.reads c.read.ensures.counts c.read.ensures.told

pub returns-clause-reads : goal.returns-clause-reads
returns-clause-reads g t c =
    reading_goes_on _ _ _ _ _ c.read.result c.in_ok-text.text _ _ _ _ _ _ _ _ (omega arith) (sym c.outcome_of.ensures ∙ c.in_ok-text.was) c.set_table.ensures c.read.ensures.contents c.read.ensures.reads c.read.ensures.counts c.read.ensures.told c.read_tables.ensures.reads

pub returns-in_err-text-clause-faults : goal.returns-in_err-text-clause-faults
returns-in_err-text-clause-faults g t c =
    let p = err_from_is_err_and c.from_residual.result c.from_residual.ensures.1 in
    rw (p.1, p.2, c.read.ensures.counts) (ending_counted _ c.read.result c.in_err-text.field-0.0 (g.S.Shelf.counts c.args.shelf.now) (sym c.outcome_of.ensures ∙ c.in_err-text.was))
