-- The table of units.
use Rattle.std.specs.Prelude.{ℕ, ◌+◌, List, [], ◌∷◌, ◌++◌, length, nat_lt, Ok, codes}
use Rattle.ra_base.specs.declared.limits.TheConstants.{MOST_POOLED_MW, MOST_UNITS}
use Rattle.ra_base.specs.declared.table.TableName.TheVariants.{Units}
use Rattle.system_model.specs.declared.components.Unit.{Unit as UnitPart}
use Rattle.system_model.specs.Components.{pooled_capacity}
use Rattle.system_model.specs.System.{SystemParts, unit_count}
use Rattle.system_tables.specs.declared.faults.Cause.TheVariants.{OutOfRange}
use Rattle.system_tables.specs.declared.faults.Column.TheVariants.{Fixed}
use Rattle.system_tables.specs.declared.faults.Place.{Place}
use Rattle.system_tables.specs.declared.units.UnitColumns.{UnitColumns}
use Rattle.system_tables.specs.Columns.{column_in}
use Rattle.system_tables.specs.Faults.{Read, ◌>>=◌, fault_at, below, refuse, in_turn, table_in, shape_in}
use Rattle.system_tables.specs.Fields.{whole_in, rates_in, some_rate_in, name_in, reference_in}
use Rattle.system_tables.specs.Names.{Names}
use Rattle.system_tables.specs.Records.{Row, Rows, records_of}

-- the columns in the order of the definition
unfoldable pub unit_columns_in : Row → Read UnitColumns
unit_columns_in header = do
  name ← column_in Units (Fixed 0) header (codes "name")
  zone ← column_in Units (Fixed 1) header (codes "zone")
  capacity ← column_in Units (Fixed 2) header (codes "capacity")
  failure ← column_in Units (Fixed 3) header (codes "failure")
  repair ← column_in Units (Fixed 4) header (codes "repair")
  Ok (record {
    name = name;
    zone = zone;
    capacity = capacity;
    rates = record { failure = failure; repair = repair };
  })

-- the unit of a row
unfoldable pub unit_of : Place → UnitColumns → Names → Row → Read UnitPart
unit_of place columns zones row = do
  zone ← reference_in place columns.zone zones row
  capacity ← whole_in place columns.capacity 0 MOST_POOLED_MW row
  rates ← rates_in place columns.rates row
  _ ← some_rate_in place columns.rates rates
  Ok (record { zone = zone; capacity = capacity; rates = rates })

abbrev pub with_unit : SystemParts → List ℕ → UnitPart → SystemParts
with_unit above name unit =
    record above {
      units = above.units ++ unit ∷ [];
      unit_names = above.unit_names ++ name ∷ [];
    }

-- a row, below the units above it
unfoldable pub unit_in : UnitColumns → ℕ → SystemParts → Row → Read SystemParts
unit_in columns width above row = do
  _ ← shape_in (below Units (unit_count above)) MOST_UNITS (unit_count above) width row
  name ← name_in (below Units (unit_count above)) columns.name above.unit_names row
  unit ← unit_of (below Units (unit_count above)) columns above.zone_names row
  _ ← refuse (nat_lt MOST_POOLED_MW (pooled_capacity above.units + unit.capacity))
      (fault_at (below Units (unit_count above)) columns.capacity.column
      (OutOfRange (pooled_capacity above.units + unit.capacity) MOST_POOLED_MW))
  Ok (with_unit above name unit)

-- the header, then the rows in turn
unfoldable pub unit_rows_in : SystemParts → Row → Rows → Read SystemParts
unit_rows_in above header rows = do
  columns ← unit_columns_in header
  in_turn (unit_in columns (length header)) above rows

-- the units of the table behind those that are there
abbrev pub with_units : SystemParts → List ℕ → Read SystemParts
with_units above bytes = table_in Units (records_of bytes) (unit_rows_in above)
