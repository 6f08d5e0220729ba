use Rattle.outage_chronology.proofs.MaskSteps.{NoneBelow}
use Rattle.outage_chronology.proofs.masks.are_above.Given as goal

-- where all are above theirs, none of the words so far is below its threshold
abbrev pub invariant-loop-at : goal.invariant-loop-at
invariant-loop-at l = NoneBelow l.words l.thresholds l.all l.at
