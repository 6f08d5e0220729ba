use Rattle.std.proofs.Common.{subst}
use Rattle.outage_table.proofs.StateLaws.{all_weight-pos}
use Rattle.analytic_index.specs.Index.{IsIndex}
use Rattle.analytic_index.proofs.IndexLaws.{index_encloses, index_narrow}
use Rattle.analytic_index.proofs.NeedLaws.{unshifted}
use Rattle.analytic_index.proofs.analysis.Analysis.index.Goals as goal

pub returns-clause-written : goal.returns-clause-written
returns-clause-written c =
    subst (IsIndex c.sum_of_hours.result c.args.self.now.units) (unshifted c.args.self.now.hours) c.sum_of_hours.ensures.written

pub returns-clause-encloses : goal.returns-clause-encloses
returns-clause-encloses c = index_encloses _ _ _ c.sum_of_hours.ensures.rated (returns-clause-written c)

pub returns-clause-possible : goal.returns-clause-possible
returns-clause-possible c = all_weight-pos _ c.sum_of_hours.ensures.rated

pub returns-clause-width : goal.returns-clause-width
returns-clause-width c = index_narrow _ _ _ c.sum_of_hours.ensures.rated (returns-clause-written c)
