use Rattle.std.proofs.Common.{◌≡◌, get_or}
use Rattle.load_model.specs.Need.{need_of, no_net_hour}
use Rattle.outage_table.proofs.StateLaws.{all_weight-pos}
use Rattle.analytic_index.proofs.IndexLaws.{index_encloses, index_narrow}
use Rattle.analytic_index.proofs.analysis.Analysis.hourly.Goals as goal

pub returns-clause-encloses : goal.returns-clause-encloses
returns-clause-encloses c =
    let need : c.need.result ≡ need_of (get_or c.args.self.now.hours c.args.hour no_net_hour) = rw (← c.self.view_is) c.need.ensures.value in
    rw (← need) (index_encloses _ _ _ c.index_of_hour.ensures.rated c.index_of_hour.ensures.written)

pub returns-clause-possible : goal.returns-clause-possible
returns-clause-possible c = all_weight-pos _ c.index_of_hour.ensures.rated

pub returns-clause-width : goal.returns-clause-width
returns-clause-width c =
    let need : c.need.result ≡ need_of (get_or c.args.self.now.hours c.args.hour no_net_hour) = rw (← c.self.view_is) c.need.ensures.value in
    rw (← need) (index_narrow _ _ _ c.index_of_hour.ensures.rated c.index_of_hour.ensures.written)
