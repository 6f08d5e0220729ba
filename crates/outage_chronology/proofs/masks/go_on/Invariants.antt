use Rattle.std.proofs.Common.{◌≡◌, ◌-◌, ◌≤◌, length}
use Rattle.std.specs.Prelude.{vec_capacity}
use Rattle.outage_chronology.proofs.MaskSteps.{HaveTurned}
use Rattle.outage_chronology.proofs.masks.go_on.Given as goal

-- the masks so far have turned where they were to, and these are listed
abbrev pub invariant-loop-from : goal.invariant-loop-from
invariant-loop-from l = record {
  within : l.from ≤ length l.initial.masks;
  far : HaveTurned (record { words = l.words; fails = l.fails; repairs = l.is_repaired; before = l.initial.masks }) l.initial.thresholds l.masks l.thresholds l.changed.items l.from;
  masks_stay : length l.masks ≡ length l.initial.masks;
  thresholds_stay : length l.thresholds ≡ length l.initial.thresholds;
  space : vec_capacity l.changed ≡ vec_capacity l.initial.changed;
}

abbrev pub decreases-loop-from : goal.decreases-loop-from
decreases-loop-from l = length l.initial.masks - l.from

abbrev pub invariant-loop-at : goal.invariant-loop-at
invariant-loop-at l = record {
  far : HaveTurned (record { words = l.words; fails = l.fails; repairs = l.is_repaired; before = l.fn.masks }) l.fn.thresholds l.masks l.thresholds l.changed.items l.at;
  masks_stay : length l.masks ≡ length l.fn.masks;
  thresholds_stay : length l.thresholds ≡ length l.fn.thresholds;
  space : vec_capacity l.changed ≡ vec_capacity l.fn.changed;
}
