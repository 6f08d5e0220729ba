use Rattle.std.proofs.Common.{◌≡◌, get_or, ◌∙◌}
use Rattle.fixed_interval.specs.Rounding.{floor_div, ceil_div}
use Rattle.load_model.specs.Need.{need_of, no_net_hour}
use Rattle.outage_table.specs.Grid.{unserved_grid}
use Rattle.analytic_index.specs.Index.{lolp_end}
use Rattle.index_text.proofs.HourIndexLemmas.{lole_of_one, eue_of_one}
use Rattle.index_text.proofs.index.put_hour.Goals as goal

pub returns : goal.returns
returns c =
    let units = c.args.analysis.now.units in
    let needed = need_of (get_or c.args.analysis.now.hours c.args.hour no_net_hour) in
    let need : c.need-need.result ≡ needed = rw (← c.loads.ensures) c.need-need.ensures.value in
    let lole_low : c.hourly-index.result.lole.low ≡ lolp_end floor_div units needed = c.hourly-index.ensures.written.lole_low ∙ lole_of_one floor_div units needed in
    let lole_high : c.hourly-index.result.lole.high ≡ lolp_end ceil_div units needed = c.hourly-index.ensures.written.lole_high ∙ lole_of_one ceil_div units needed in
    let eue_low : c.hourly-index.result.eue.low ≡ unserved_grid floor_div units needed = c.hourly-index.ensures.written.eue_low ∙ eue_of_one floor_div units needed in
    let eue_high : c.hourly-index.result.eue.high ≡ unserved_grid ceil_div units needed = c.hourly-index.ensures.written.eue_high ∙ eue_of_one ceil_div units needed in
    rw (need, lole_low, lole_high, eue_low, eue_high) at c.put_line.ensures
