-- The tables of load and of variable generation: an amount for each hour and zone.
use Rattle.std.specs.Prelude.{◌≡◌, ℕ, ◌+◌, ◌≤◌, ◌==◌, not, Bool, true, false, List, [], ◌∷◌, ◌++◌, All, length, sum, map, replicate, nat_lt, slice_index_or, Option, None, Some, Result, Ok, Err, codes}
use Rattle.std.specs.List.{range_with_len}
use Rattle.ra_base.specs.declared.limits.TheConstants.{MOST_HOURS, MOST_POOLED_MW}
use Rattle.ra_base.specs.declared.table.TableName.{TableName}
use Rattle.ra_base.specs.declared.table.TableName.TheVariants.{Load, Variable}
use Rattle.system_model.specs.System.{SystemParts, HourAmounts, amounts_of}
use Rattle.system_tables.specs.declared.columns.FoundColumn.{FoundColumn}
use Rattle.system_tables.specs.declared.faults.Cause.TheVariants.{Empty, HourOrder, OutOfRange}
use Rattle.system_tables.specs.declared.faults.Column.{Column}
use Rattle.system_tables.specs.declared.faults.Column.TheVariants.{Fixed, Zone, Whole}
use Rattle.system_tables.specs.declared.faults.Place.{Place}
use Rattle.system_tables.specs.declared.faults.ReadError.{ReadError}
use Rattle.system_tables.specs.declared.faults.ReadError.TheVariants.{Table, OutOfMemory}
use Rattle.system_tables.specs.AmountRows.{HeldRows}
use Rattle.system_tables.specs.Columns.{column_in, optional_column_in}
use Rattle.system_tables.specs.Faults.{Read, ◌>>=◌, fault_at, below, refuse, in_turn, table_in, shape_in}
use Rattle.system_tables.specs.Fields.{whole_in, value_in}
use Rattle.system_tables.specs.Names.{Names}
use Rattle.system_tables.specs.Records.{Row, Rows, records_of}

-- the columns of the zones, where they have one
abbrev pub ZoneColumns : Type 0
ZoneColumns = List (Option FoundColumn)

-- a zone's column, which `load` has and `variable` may have
unfoldable pub amount_column_in : Bool → TableName → Column → Row → List ℕ → Read (Option FoundColumn)
amount_column_in true table column header name = do
  found ← column_in table column header name
  Ok (Some found)
amount_column_in false table column header name = optional_column_in table column header name

-- the next zone's column behind those of the zones before it
unfoldable pub next_column_in : Bool → TableName → Row → ZoneColumns → List ℕ → Read ZoneColumns
next_column_in required table header before name = do
  found ← amount_column_in required table (Zone (length before)) header name
  Ok (before ++ found ∷ [])

-- The hour is the next one. The first is 0 or 1.
unfoldable pub hour_order_in : Place → Column → Option ℕ → ℕ → Read (Unit {0})
hour_order_in place column None hour = refuse (nat_lt 1 hour) (fault_at place column (HourOrder hour 0))
hour_order_in place column (Some wanted) hour =
    refuse (not (hour == wanted)) (fault_at place column (HourOrder hour wanted))

-- a zone's amount in MW: 0 where the zone has no column
unfoldable pub amount_in : Place → Row → Option FoundColumn → Read ℕ
amount_in place row None = Ok 0
amount_in place row (Some found) = whole_in place found 0 MOST_POOLED_MW row

-- the next zone's amount behind those of the zones before it
unfoldable pub next_amount_in : Place → Row → List ℕ → Option FoundColumn → Read (List ℕ)
next_amount_in place row before column = do
  amount ← amount_in place row column
  Ok (before ++ amount ∷ [])

-- the amounts of all zones together are within the limit
unfoldable pub row_within_in : Place → ℕ → Read (Unit {0})
row_within_in place total =
    refuse (nat_lt MOST_POOLED_MW total) (fault_at place Whole (OutOfRange total MOST_POOLED_MW))

-- the hours that were read so far: the number of the next one, where there is one, and the amounts of each
pub record HoursAbove : Type 0 where
  pub wanted : Option ℕ
  pub amounts : List (List ℕ)

abbrev pub hours_above : Option ℕ → List (List ℕ) → HoursAbove
hours_above wanted amounts = record { wanted = wanted; amounts = amounts }

-- a row, below the hours above it
unfoldable pub hour_in : TableName → ℕ → FoundColumn → ZoneColumns → ℕ → HoursAbove → Row → Read HoursAbove
hour_in table limit hour_column zone_columns width above row = do
  _ ← shape_in (below table (length above.amounts)) limit (length above.amounts) width row
  hour ← value_in (below table (length above.amounts)) hour_column row
  _ ← hour_order_in (below table (length above.amounts)) hour_column.column above.wanted hour
  amounts ← in_turn (next_amount_in (below table (length above.amounts)) row) [] zone_columns
  _ ← row_within_in (below table (length above.amounts)) (sum amounts)
  Ok (hours_above (Some (hour + 1)) (above.amounts ++ amounts ∷ []))

-- the header, then the rows in turn
unfoldable pub hour_rows_in : Bool → TableName → ℕ → Names → Row → Rows → Read HoursAbove
hour_rows_in required table limit zones header rows = do
  hour ← column_in table (Fixed 0) header (codes "hour")
  columns ← in_turn (next_column_in required table header) [] zones
  in_turn (hour_in table limit hour columns (length header)) (hours_above None []) rows

-- the amounts of a table by hour and zone
abbrev pub amounts_in : Bool → TableName → ℕ → Names → List ℕ → Read HoursAbove
amounts_in required table limit zones bytes =
    table_in table (records_of bytes) (hour_rows_in required table limit zones)

-- at least one hour
unfoldable pub some_hour_in : ℕ → Read (Unit {0})
some_hour_in hours = refuse (hours == 0) (fault_at (below Load 0) (Fixed 0) Empty)

-- as many hours of variable generation as of load
unfoldable pub all_hours_in : ℕ → ℕ → Read (Unit {0})
all_hours_in hours wanted =
    refuse (nat_lt hours wanted) (fault_at (below Variable hours) (Fixed 0) (HourOrder hours wanted))

-- the variable generation: none in any hour where there is no such table
unfoldable pub variables_in : Names → ℕ → Option (List ℕ) → Read (List (List ℕ))
variables_in zones hours None = Ok (replicate hours (replicate (length zones) 0))
variables_in zones hours (Some bytes) = do
  read ← amounts_in false Variable hours zones bytes
  _ ← all_hours_in (length read.amounts) hours
  Ok read.amounts

-- the hours of a load and a variable generation
abbrev pub hours_of : List (List ℕ) → List (List ℕ) → List HourAmounts
hours_of loads variables =
    map (λ hour. amounts_of (slice_index_or loads hour []) (slice_index_or variables hour []))
    (range_with_len 0 (length loads))

-- the hours of the two tables
unfoldable pub with_hours : SystemParts → List ℕ → Option (List ℕ) → Read SystemParts
with_hours above load variable = do
  loads ← amounts_in true Load MOST_HOURS above.zone_names load
  _ ← some_hour_in (length loads.amounts)
  variables ← variables_in above.zone_names (length loads.amounts) variable
  Ok (record above { hours = hours_of loads.amounts variables })

-- an amount for each zone, within the limit together
pub record IsAmountRow (zones : ℕ) (amounts : List ℕ) : Type 0 where
  pub size : length amounts ≡ zones
  pub within : sum amounts ≤ MOST_POOLED_MW

-- rows of such amounts
pub record AreAmountRows (zones : ℕ) (held : HeldRows) : Type 0 where
  pub width : held.width ≡ zones
  pub each : All (IsAmountRow zones) held.rows

-- the answer gives the amounts of the outcome's hours
abbrev pub IsHoursRead : {U : Type 0} → Read HoursAbove → Result U ReadError → List (List ℕ) → Type 0
IsHoursRead outcome (Ok _) amounts = (wanted : Option ℕ) × (outcome ≡ Ok (hours_above wanted amounts))
IsHoursRead outcome (Err (Table fault)) amounts = outcome ≡ Err fault
IsHoursRead outcome (Err OutOfMemory) amounts = Unit {0}
