-- The table of interfaces.
use Rattle.std.specs.Prelude.{ℕ, ◌==◌, List, [], ◌∷◌, ◌++◌, length, Ok, codes}
use Rattle.ra_base.specs.declared.limits.TheConstants.{MOST_INTERFACES, MOST_LINK_MW}
use Rattle.ra_base.specs.declared.table.TableName.TheVariants.{Interfaces}
use Rattle.system_model.specs.declared.components.Interface.{Interface}
use Rattle.system_model.specs.System.{SystemParts, interface_count}
use Rattle.system_tables.specs.declared.faults.Cause.TheVariants.{SameZone}
use Rattle.system_tables.specs.declared.faults.Column.TheVariants.{Fixed}
use Rattle.system_tables.specs.declared.faults.Place.{Place}
use Rattle.system_tables.specs.declared.interfaces.InterfaceColumns.{InterfaceColumns}
use Rattle.system_tables.specs.Columns.{column_in}
use Rattle.system_tables.specs.Faults.{Read, ◌>>=◌, fault_at, below, refuse, in_turn, table_in, shape_in}
use Rattle.system_tables.specs.Fields.{whole_in, name_in, reference_in}
use Rattle.system_tables.specs.Names.{Names}
use Rattle.system_tables.specs.Records.{Row, Rows, records_of}

-- the columns in the order of the definition
unfoldable pub interface_columns_in : Row → Read InterfaceColumns
interface_columns_in header = do
  name ← column_in Interfaces (Fixed 0) header (codes "name")
  start ← column_in Interfaces (Fixed 1) header (codes "from")
  end ← column_in Interfaces (Fixed 2) header (codes "to")
  forward ← column_in Interfaces (Fixed 3) header (codes "forward")
  backward ← column_in Interfaces (Fixed 4) header (codes "backward")
  Ok (record { name = name; start = start; end = end; forward = forward; backward = backward })

-- the interface of a row
unfoldable pub interface_of : Place → InterfaceColumns → Names → Row → Read Interface
interface_of place columns zones row = do
  start ← reference_in place columns.start zones row
  end ← reference_in place columns.end zones row
  forward ← whole_in place columns.forward 0 MOST_LINK_MW row
  backward ← whole_in place columns.backward 0 MOST_LINK_MW row
  _ ← refuse (start == end) (fault_at place columns.end.column SameZone)
  Ok (record { from = start; to = end; forward = forward; backward = backward })

abbrev pub with_interface : SystemParts → List ℕ → Interface → SystemParts
with_interface above name interface =
    record above {
      interfaces = above.interfaces ++ interface ∷ [];
      interface_names = above.interface_names ++ name ∷ [];
    }

-- a row, below the interfaces above it
unfoldable pub interface_in : InterfaceColumns → ℕ → SystemParts → Row → Read SystemParts
interface_in columns width above row = do
  _ ← shape_in (below Interfaces (interface_count above)) MOST_INTERFACES (interface_count above) width row
  name ← name_in (below Interfaces (interface_count above)) columns.name above.interface_names row
  interface ← interface_of (below Interfaces (interface_count above)) columns above.zone_names row
  Ok (with_interface above name interface)

-- the header, then the rows in turn
unfoldable pub interface_rows_in : SystemParts → Row → Rows → Read SystemParts
interface_rows_in above header rows = do
  columns ← interface_columns_in header
  in_turn (interface_in columns (length header)) above rows

-- the interfaces of the table behind those that are there
abbrev pub with_interfaces : SystemParts → List ℕ → Read SystemParts
with_interfaces above bytes = table_in Interfaces (records_of bytes) (interface_rows_in above)
