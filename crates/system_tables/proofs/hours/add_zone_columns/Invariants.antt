use Rattle.std.proofs.Common.{◌≡◌, [], length, drop}
use Rattle.system_tables.specs.Faults.{in_turn}
use Rattle.system_tables.specs.Hours.{next_column_in}
use Rattle.system_tables.proofs.hours.add_zone_columns.Given as goal

abbrev pub invariant-loop-zone : goal.invariant-loop-zone
invariant-loop-zone l =
    record {
      same :
          in_turn (next_column_in l.required l.table l.header.row) l.columns.items (drop l.zone l.zones)
          ≡ in_turn (next_column_in l.required l.table l.header.row) [] l.zones;
      size : length l.columns.items ≡ l.zone;
    }
