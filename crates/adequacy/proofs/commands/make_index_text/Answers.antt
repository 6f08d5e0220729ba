use Rattle.std.proofs.Common.{rules, subst}
use Rattle.analytic_index.specs.Enclosed.{AreIndicesEnclosed}
use Rattle.analytic_index.proofs.Laws.{law_indices_enclosed}
use Rattle.adequacy.proofs.commands.make_index_text.Goals as goal

pub returns : goal.returns
returns c = (
  subst AreIndicesEnclosed c.in_ok-analysis.ensures.pool (law_indices_enclosed _ c.in_ok-analysis.ensures.rated),
  search rules,
)
