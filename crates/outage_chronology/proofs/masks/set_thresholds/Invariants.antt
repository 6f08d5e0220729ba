use Rattle.outage_chronology.specs.Masks.{AreOfStates}
use Rattle.outage_chronology.proofs.masks.set_thresholds.Given as goal

-- the thresholds so far are those of the states
abbrev pub invariant-loop-at : goal.invariant-loop-at
invariant-loop-at l = AreOfStates l.masks l.fails l.is_repaired l.thresholds l.at
