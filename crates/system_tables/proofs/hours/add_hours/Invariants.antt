use Rattle.std.proofs.Common.{◌≡◌, ◌≤◌, [], length, None}
use Rattle.system_tables.specs.Faults.{in_turn}
use Rattle.system_tables.specs.Hours.{hour_in, hours_above, AreAmountRows}
use Rattle.system_tables.proofs.hours.add_hours.Given as goal

abbrev pub invariant-rows : goal.invariant-rows
invariant-rows l =
    record {
      same :
          in_turn (hour_in l.table l.limit l.hour l.columns l.width) (hours_above l.wanted l.amounts.rows) l.rows.rest
          ≡ in_turn (hour_in l.table l.limit l.hour l.columns l.width) (hours_above None []) l.initial.rows.rest;
      room : length l.amounts.rows ≤ l.limit;
      rows : AreAmountRows (length l.columns) l.amounts;
      size : length l.these ≡ length l.columns;
    }

abbrev pub decreases-rows : goal.decreases-rows
decreases-rows l = length l.rows.rest
