use Rattle.outage_table.proofs.StateLaws.{all_weight-pos}
use Rattle.analytic_index.proofs.IndexLaws.{index_encloses, index_narrow, index_falls}
use Rattle.analytic_index.proofs.analysis.Analysis.index_shifted.Goals as goal

pub returns-clause-encloses : goal.returns-clause-encloses
returns-clause-encloses c = index_encloses _ _ _ c.sum_of_hours.ensures.rated c.sum_of_hours.ensures.written

pub returns-clause-possible : goal.returns-clause-possible
returns-clause-possible c = all_weight-pos _ c.sum_of_hours.ensures.rated

pub returns-clause-width : goal.returns-clause-width
returns-clause-width c = index_narrow _ _ _ c.sum_of_hours.ensures.rated c.sum_of_hours.ensures.written

pub returns-clause-falls : goal.returns-clause-falls
returns-clause-falls c l m h k = index_falls _ _ _ _ _ _ _ c.sum_of_hours.ensures.rated c.sum_of_hours.ensures.written h k
