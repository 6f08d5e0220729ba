use Rattle.outage_chronology.specs.Thresholds.{AreOfFirst}
use Rattle.outage_chronology.proofs.thresholds.Thresholds.of.Given as goal

-- the components so far have their thresholds
abbrev pub invariant-loop-component : goal.invariant-loop-component
invariant-loop-component l =
    AreOfFirst l.component l.system (record { starts_out = l.starts_out; fails = l.fails; is_repaired = l.is_repaired })
