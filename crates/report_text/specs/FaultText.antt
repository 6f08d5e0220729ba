-- The lines of a refused folder. 10 is the line feed.
use Rattle.std.specs.Prelude.{ℕ, List, [], ◌∷◌, ◌++◌, codes, slice_index_or}
use Rattle.decimal_text.specs.DecimalText.{whole_text}
use Rattle.decimal_text.specs.declared.fault.NumberFault.{NumberFault}
use Rattle.decimal_text.specs.declared.fault.NumberFault.TheVariants.{Empty as EmptyNumber, NotANumber, NotWhole, TooLarge}
use Rattle.ra_base.specs.declared.table.TableName.{TableName}
use Rattle.ra_base.specs.declared.table.TableName.TheVariants.{Zones, Units, Interfaces, Lines, Storages, Load, Variable}
use Rattle.system_tables.specs.declared.faults.TableFault.{TableFault}
use Rattle.system_tables.specs.declared.faults.Column.{Column}
use Rattle.system_tables.specs.declared.faults.Column.TheVariants.{Fixed, Zone, Whole}
use Rattle.system_tables.specs.declared.faults.Cause.{Cause}
use Rattle.system_tables.specs.declared.faults.Cause.TheVariants.{NoHeader, ColumnMissing, ColumnTwice, FieldCount, Number, OutOfRange, NameTwice, NameUnknown, HourOrder, TooMany, Empty, BothRatesZero, SameZone}

-- a table's name
abbrev pub table_text : TableName → List ℕ
table_text Zones = codes "zones"
table_text Units = codes "units"
table_text Interfaces = codes "interfaces"
table_text Lines = codes "lines"
table_text Storages = codes "storages"
table_text Load = codes "load"
table_text Variable = codes "variable"

-- why a field is no number of its kind
abbrev pub number_fault_text : NumberFault → List ℕ
number_fault_text EmptyNumber = codes "empty number"
number_fault_text (NotANumber place) = codes "not a number at " ++ whole_text place
number_fault_text (NotWhole place) = codes "not whole at " ++ whole_text place
number_fault_text TooLarge = codes "number too large"

-- what is wrong with a table
abbrev pub cause_text : Cause → List ℕ
cause_text NoHeader = codes "no header"
cause_text ColumnMissing = codes "column missing"
cause_text ColumnTwice = codes "column twice"
cause_text FieldCount = codes "field count"
cause_text (Number fault) = number_fault_text fault
cause_text (OutOfRange value limit) = whole_text value ++ codes " is out of range, limit " ++ whole_text limit
cause_text NameTwice = codes "name twice"
cause_text NameUnknown = codes "name unknown"
cause_text (HourOrder found wanted) = codes "hour " ++ whole_text found ++ codes ", wanted " ++ whole_text wanted
cause_text (TooMany limit) = codes "too many rows, limit " ++ whole_text limit
cause_text Empty = codes "empty"
cause_text BothRatesZero = codes "both rates are zero"
cause_text SameZone = codes "same zone"

-- the columns of a table that aren't zones', in the order of its definition
abbrev pub columns_of : TableName → List (List ℕ)
columns_of Zones = codes "name" ∷ []
columns_of Units = codes "name" ∷ codes "zone" ∷ codes "capacity" ∷ codes "failure" ∷ codes "repair" ∷ []
columns_of Interfaces = codes "name" ∷ codes "from" ∷ codes "to" ∷ codes "forward" ∷ codes "backward" ∷ []
columns_of Lines =
    codes "name" ∷ codes "interface" ∷ codes "forward" ∷ codes "backward" ∷ codes "failure" ∷ codes "repair" ∷ []
columns_of Storages =
    codes "name" ∷ codes "zone" ∷ codes "charge" ∷ codes "discharge" ∷ codes "energy_kwh" ∷ codes "start_kwh"
    ∷ codes "charge_efficiency" ∷ codes "discharge_efficiency" ∷ codes "carryover" ∷ codes "failure" ∷ codes "repair" ∷ []
columns_of Load = codes "hour" ∷ []
columns_of Variable = codes "hour" ∷ []

-- the name of the column with this number, and nothing past the last
abbrev pub fixed_column_text : TableName → ℕ → List ℕ
fixed_column_text table at = slice_index_or (columns_of table) at []

-- the column of a fault: its name, the zone whose column it is, or a dash for the whole row
abbrev pub column_text : TableName → Column → List ℕ
column_text table (Fixed at) = fixed_column_text table at
column_text table (Zone zone) = codes "zone " ++ whole_text zone
column_text table Whole = codes "-"

-- the line of a fault in the tables
unfoldable pub fault_line : TableFault → List ℕ
fault_line fault =
    codes "table " ++ table_text fault.table
    ++ codes " row " ++ whole_text fault.row
    ++ codes " column " ++ column_text fault.table fault.column
    ++ codes ": " ++ cause_text fault.cause
    ++ 10 ∷ []
