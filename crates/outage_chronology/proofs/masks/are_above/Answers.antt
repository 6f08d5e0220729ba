use Rattle.outage_chronology.proofs.MaskSteps.{none-more}
use Rattle.outage_chronology.proofs.masks.are_above.Goals as goal

pub loop-at-preserved : goal.loop-at-preserved
loop-at-preserved c = none-more c.args.words.now c.args.thresholds.now c.loop-at.all c.is_above-all.result c.loop-at.at c.is_above-all.ensures c.loop-at.invariant
