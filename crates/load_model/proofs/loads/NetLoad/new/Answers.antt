use Rattle.std.proofs.Common.{arith}
use Rattle.load_model.proofs.HourLaws.{all_net_hours}
use Rattle.load_model.proofs.loads.NetLoad.new.Goals as goal

pub invariant_of-result : goal.invariant_of-result
invariant_of-result c =
    all_net_hours c.args.system.now c.loop-hour.hour _ c.hours.ensures.valid (omega arith) c.loop-hour.invariant
