use Rattle.std.proofs.Common.{◌<◌, ◌≤◌, length, subst, sym, arith}
use Rattle.ra_base.specs.declared.limits.TheConstants.{MOST_POOLED_MW}
use Rattle.load_model.specs.declared.hours.NetHour.{NetHour}
use Rattle.load_model.specs.Need.{need_of}
use Rattle.load_model.proofs.HourLaws.{need-le}
use Rattle.load_model.proofs.loads.NetLoad.need.Goals as goal

pub returns-clause-range : goal.returns-clause-range
returns-clause-range c =
    let below : c.args.hour < length c.self.inside.hours.items = rw c.self.view_is c.requires in
    let here : need_of c.index.result.now ≤ MOST_POOLED_MW
    = subst (λ (hour : NetHour). need_of hour ≤ MOST_POOLED_MW) (sym c.index.ensures) (need-le _ _ c.index.result.now c.self.invariant below) in
    omega arith
