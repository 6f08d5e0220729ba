use Rattle.std.proofs.Common.{◌≡◌, length}
use Rattle.system_maker.specs.MadeSystem.{made_hours}
use Rattle.system_maker.proofs.hours.add_hours.Given as goal

-- the hours that were added so far
abbrev pub invariant-loop-hour : goal.invariant-loop-hour
invariant-loop-hour l =
    record {
      added : l.draft ≡ record l.initial.draft { hours = made_hours l.variant l.hour };
      load : length l.load ≡ 3;
      variable : length l.variable ≡ 3;
    }
