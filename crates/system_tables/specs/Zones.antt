-- The table of zones.
use Rattle.std.specs.Prelude.{ℕ, ◌==◌, List, [], ◌∷◌, ◌++◌, length, Ok, codes}
use Rattle.ra_base.specs.declared.limits.TheConstants.{MOST_ZONES}
use Rattle.ra_base.specs.declared.table.TableName.TheVariants.{Zones}
use Rattle.system_model.specs.System.{SystemParts, zone_count}
use Rattle.system_tables.specs.declared.faults.Cause.TheVariants.{Empty}
use Rattle.system_tables.specs.declared.faults.Column.TheVariants.{Fixed}
use Rattle.system_tables.specs.declared.zones.ZoneColumns.{ZoneColumns}
use Rattle.system_tables.specs.Columns.{column_in}
use Rattle.system_tables.specs.Faults.{Read, ◌>>=◌, fault_at, below, refuse, in_turn, table_in, shape_in}
use Rattle.system_tables.specs.Fields.{zone_name_in}
use Rattle.system_tables.specs.Records.{Row, Rows, records_of}

unfoldable pub zone_columns_in : Row → Read ZoneColumns
zone_columns_in header = do
  name ← column_in Zones (Fixed 0) header (codes "name")
  Ok (record { name = name })

abbrev pub with_zone : SystemParts → List ℕ → SystemParts
with_zone above name = record above { zone_names = above.zone_names ++ name ∷ [] }

-- a row, below the zones above it
unfoldable pub zone_in : ZoneColumns → ℕ → SystemParts → Row → Read SystemParts
zone_in columns width above row = do
  _ ← shape_in (below Zones (zone_count above)) MOST_ZONES (zone_count above) width row
  name ← zone_name_in (below Zones (zone_count above)) columns.name above.zone_names row
  Ok (with_zone above name)

-- at least one
unfoldable pub some_zone_in : SystemParts → Read SystemParts
some_zone_in read = do
  _ ← refuse (zone_count read == 0) (fault_at (below Zones 0) (Fixed 0) Empty)
  Ok read

-- the header, then the rows in turn
unfoldable pub zone_rows_in : SystemParts → Row → Rows → Read SystemParts
zone_rows_in above header rows = do
  columns ← zone_columns_in header
  read ← in_turn (zone_in columns (length header)) above rows
  some_zone_in read

-- the zones of the table behind those that are there
abbrev pub with_zones : SystemParts → List ℕ → Read SystemParts
with_zones above bytes = table_in Zones (records_of bytes) (zone_rows_in above)
