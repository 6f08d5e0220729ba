use Rattle.std.proofs.Common.{◌≤◌, get_or, ◌∙◌, arith}
use Rattle.ra_base.specs.declared.limits.TheConstants.{MOST_POOLED_MW}
use Rattle.load_model.specs.Need.{need_of, no_net_hour}
use Rattle.load_model.proofs.HourLaws.{need-le, total_more}
use Rattle.load_model.proofs.loads.NetLoad.total.Goals as goal

pub loop-hour-preserved : goal.loop-hour-preserved
loop-hour-preserved c =
    let within : need_of (get_or c.net_hours-hour-items.result.now c.loop-hour.hour-index no_net_hour) ≤ MOST_POOLED_MW
    = need-le _ _ no_net_hour c.net_hours-hour-items.ensures.range c.loop-hour-test.true in
    record {
      total = total_more _ _ _ _ c.net_hours-hour-items.ensures.range c.loop-hour-test.true c.loop-hour.invariant.total (c.from-total.ensures ∙ c.need.ensures);
      small = omega arith;
    }
