use Rattle.std.proofs.Common.{arith}
use Rattle.load_model.proofs.PeakLaws.{peak_all}
use Rattle.load_model.proofs.loads.NetLoad.peak.Goals as goal

pub returns : goal.returns
returns c = peak_all _ _ _ (omega arith) (omega (arith, c.hours-hour-end.ensures.range.some)) c.loop-hour.invariant
