use Rattle.std.proofs.Common.{arith}
use Rattle.outage_chronology.proofs.MaskSteps.{states-more}
use Rattle.outage_chronology.proofs.masks.set_thresholds.Goals as goal

pub loop-at-preserved : goal.loop-at-preserved
loop-at-preserved c =
    states-more c.args.masks.now c.args.fails.now c.args.is_repaired.now c.loop-at.thresholds c.loop-at.at c.threshold_of.result (omega arith) c.threshold_of.ensures c.loop-at.invariant
