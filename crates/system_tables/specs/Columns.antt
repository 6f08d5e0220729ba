-- Columns, found by comparing the header's fields with their names.
use Rattle.std.specs.Prelude.{ℕ, ◌+◌, List, [], ◌∷◌, if◌then◌else◌, Option, None, Some, Ok, Err, slice_index_or}
use Rattle.std.specs.Str.{bytes_eq}
use Rattle.ra_base.specs.declared.table.TableName.{TableName}
use Rattle.system_tables.specs.declared.columns.Found.{Found}
use Rattle.system_tables.specs.declared.columns.Found.TheVariants.{Missing, At, Twice}
use Rattle.system_tables.specs.declared.columns.FoundColumn.{FoundColumn}
use Rattle.system_tables.specs.declared.faults.Cause.{Cause}
use Rattle.system_tables.specs.declared.faults.Cause.TheVariants.{ColumnMissing, ColumnTwice}
use Rattle.system_tables.specs.declared.faults.Column.{Column}
use Rattle.system_tables.specs.declared.faults.TableFault.{TableFault}
use Rattle.system_tables.specs.Faults.{Read, fault_at, row_of}
use Rattle.system_tables.specs.Records.{Row}

-- the places of the fields that have the name, counted from `at`
unfoldable pub places_from : ℕ → List ℕ → Row → List ℕ
places_from at name [] = []
places_from at name (field ∷ fields) =
    if bytes_eq field name then at ∷ places_from (at + 1) name fields else places_from (at + 1) name fields

-- one place, none, or more than one
abbrev pub found_of : List ℕ → Found
found_of [] = Missing
found_of (at ∷ []) = At at
found_of (at ∷ _ ∷ _) = Twice

-- how the name stands in the header
abbrev pub found_in : Row → List ℕ → Found
found_in header name = found_of (places_from 0 name header)

-- a fault of the header, which is row 1
abbrev pub header_fault : TableName → Column → Cause → TableFault
header_fault table column cause = fault_at (row_of table 1) column cause

abbrev pub found_column : Column → ℕ → FoundColumn
found_column column at = record { column = column; at = at }

abbrev pub or_missing : TableName → Column → Found → Read FoundColumn
or_missing table column Missing = Err (header_fault table column ColumnMissing)
or_missing table column (At at) = Ok (found_column column at)
or_missing table column Twice = Err (header_fault table column ColumnTwice)

abbrev pub or_none : TableName → Column → Found → Read (Option FoundColumn)
or_none table column Missing = Ok None
or_none table column (At at) = Ok (Some (found_column column at))
or_none table column Twice = Err (header_fault table column ColumnTwice)

-- a column that the table has
unfoldable pub column_in : TableName → Column → Row → List ℕ → Read FoundColumn
column_in table column header name = or_missing table column (found_in header name)

-- a column that the table may have
unfoldable pub optional_column_in : TableName → Column → Row → List ℕ → Read (Option FoundColumn)
optional_column_in table column header name = or_none table column (found_in header name)

-- the field of a column in a row
abbrev pub field_of : FoundColumn → Row → List ℕ
field_of column row = slice_index_or row column.at []
