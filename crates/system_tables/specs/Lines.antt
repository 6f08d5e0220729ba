-- The table of lines.
use Rattle.std.specs.Prelude.{ℕ, List, [], ◌∷◌, ◌++◌, length, Ok, codes}
use Rattle.ra_base.specs.declared.limits.TheConstants.{MOST_LINES, MOST_LINK_MW}
use Rattle.ra_base.specs.declared.table.TableName.TheVariants.{Lines}
use Rattle.system_model.specs.declared.components.Line.{Line}
use Rattle.system_model.specs.System.{SystemParts, line_count}
use Rattle.system_tables.specs.declared.faults.Column.TheVariants.{Fixed}
use Rattle.system_tables.specs.declared.faults.Place.{Place}
use Rattle.system_tables.specs.declared.lines.LineColumns.{LineColumns}
use Rattle.system_tables.specs.Columns.{column_in}
use Rattle.system_tables.specs.Faults.{Read, ◌>>=◌, below, in_turn, table_in, shape_in}
use Rattle.system_tables.specs.Fields.{whole_in, rates_in, some_rate_in, name_in, reference_in}
use Rattle.system_tables.specs.Names.{Names}
use Rattle.system_tables.specs.Records.{Row, Rows, records_of}

-- the columns in the order of the definition
unfoldable pub line_columns_in : Row → Read LineColumns
line_columns_in header = do
  name ← column_in Lines (Fixed 0) header (codes "name")
  interface ← column_in Lines (Fixed 1) header (codes "interface")
  forward ← column_in Lines (Fixed 2) header (codes "forward")
  backward ← column_in Lines (Fixed 3) header (codes "backward")
  failure ← column_in Lines (Fixed 4) header (codes "failure")
  repair ← column_in Lines (Fixed 5) header (codes "repair")
  Ok (record {
    name = name;
    interface = interface;
    forward = forward;
    backward = backward;
    rates = record { failure = failure; repair = repair };
  })

-- the line of a row
unfoldable pub line_of : Place → LineColumns → Names → Row → Read Line
line_of place columns interfaces row = do
  interface ← reference_in place columns.interface interfaces row
  forward ← whole_in place columns.forward 0 MOST_LINK_MW row
  backward ← whole_in place columns.backward 0 MOST_LINK_MW row
  rates ← rates_in place columns.rates row
  _ ← some_rate_in place columns.rates rates
  Ok (record { interface = interface; forward = forward; backward = backward; rates = rates })

abbrev pub with_line : SystemParts → List ℕ → Line → SystemParts
with_line above name line =
    record above {
      lines = above.lines ++ line ∷ [];
      line_names = above.line_names ++ name ∷ [];
    }

-- a row, below the lines above it
unfoldable pub line_in : LineColumns → ℕ → SystemParts → Row → Read SystemParts
line_in columns width above row = do
  _ ← shape_in (below Lines (line_count above)) MOST_LINES (line_count above) width row
  name ← name_in (below Lines (line_count above)) columns.name above.line_names row
  line ← line_of (below Lines (line_count above)) columns above.interface_names row
  Ok (with_line above name line)

-- the header, then the rows in turn
unfoldable pub line_rows_in : SystemParts → Row → Rows → Read SystemParts
line_rows_in above header rows = do
  columns ← line_columns_in header
  in_turn (line_in columns (length header)) above rows

-- the lines of the table behind those that are there
abbrev pub with_lines : SystemParts → List ℕ → Read SystemParts
with_lines above bytes = table_in Lines (records_of bytes) (line_rows_in above)
