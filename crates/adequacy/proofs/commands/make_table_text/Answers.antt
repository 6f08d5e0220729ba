use Rattle.std.proofs.Common.{rules, subst}
use Rattle.analytic_index.specs.Enclosed.{AreOutagesEnclosed}
use Rattle.analytic_index.proofs.Laws.{law_outages_enclosed}
use Rattle.adequacy.proofs.commands.make_table_text.Goals as goal

pub returns : goal.returns
returns c = (
  subst (λ pool. AreOutagesEnclosed pool.units) c.in_ok-analysis.ensures.pool (law_outages_enclosed _ c.in_ok-analysis.ensures.rated),
  search rules,
)
