use Rattle.std.proofs.Common.{sym, subst, List}
use Rattle.sample_totals.specs.declared.cut_rows.CutRow.{CutRow}
use Rattle.sample_totals.specs.CutRows.{AddsRows}
use Rattle.sample_totals.proofs.CutRowsLemmas.{hour_rows-none, hour_rows-some, AddsRows-none}
use Rattle.sample_totals.proofs.cut_rows.add_cut.Goals as goal

pub returns-then-cut-ne0-clause-added : goal.returns-then-cut-ne0-clause-added
returns-then-cut-ne0-clause-added c =
    subst (λ (more : List CutRow). AddsRows c.args.rows.now.items more c.add_row.new.rows.items) (sym (hour_rows-some c.args.cut c.args.unserved c.if-cut-ne0.true)) c.add_row.ensures.added

pub returns-else-cut-ne0-clause-added : goal.returns-else-cut-ne0-clause-added
returns-else-cut-ne0-clause-added c =
    subst (λ (more : List CutRow). AddsRows c.args.rows.now.items more c.args.rows.now.items) (sym (hour_rows-none c.args.cut c.args.unserved c.if-cut-ne0.false)) (AddsRows-none c.args.rows.now.items)
