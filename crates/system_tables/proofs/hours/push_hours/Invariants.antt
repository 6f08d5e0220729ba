use Rattle.std.proofs.Common.{◌≡◌, length}
use Rattle.system_tables.proofs.HourLaws.{pushed}
use Rattle.system_tables.proofs.hours.push_hours.Given as goal

abbrev pub invariant-loop-hour : goal.invariant-loop-hour
invariant-loop-hour l =
    record {
      pushed : l.draft ≡ record l.initial.draft { hours = pushed l.loads.rows l.variables.rows l.hour };
      load : length l.load ≡ l.loads.width;
      variable : length l.variable ≡ l.variables.width;
    }
