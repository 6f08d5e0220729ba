use Rattle.std.proofs.Common.{true, get_or}
use Rattle.zone_network.specs.Network.{over_zones}
use Rattle.hour_dispatch.proofs.CutLemmas.{unreached-cut, served-cut}
use Rattle.hour_dispatch.proofs.cutting.cut.Goals as goal

pub returns-then-is_served : goal.returns-then-is_served
returns-then-is_served c =
    served-cut c.args.net.now (over_zones c.args.net.now.shape (λ z. get_or c.args.unserved.now z 0) (λ z. true))
    (c.is_served.ensures.served c.if-is_served.true)

pub returns-else-is_served : goal.returns-else-is_served
returns-else-is_served c =
    unreached-cut c.args.net.now c.args.flow.now c.args.unserved.now c.requires.0 c.zones_with_spare.result
    c.reach_from.result c.zones_outside.result c.is_served.ensures.valid.shape c.requires.1 c.zones_with_spare.ensures
    c.reach_from.ensures c.zones_outside.ensures (c.is_served.ensures.short c.if-is_served.false)
