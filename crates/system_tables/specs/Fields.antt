-- Fields by the kind of their column: numbers, rates, names and references.
use Rattle.std.specs.Prelude.{ℕ, ◌/◌, ◌≤◌, ◌==◌, ◌&&◌, List, length, nat_lt, Option, None, Some, Result, Ok, Err, codes, position}
use Rattle.std.specs.Str.{bytes_eq}
use Rattle.decimal_text.specs.Reading.{whole_of, billionths_of}
use Rattle.decimal_text.specs.declared.fault.NumberFault.{NumberFault}
use Rattle.ra_base.specs.declared.limits.TheConstants.{BILLION, THOUSAND, MOST_NAME_BYTES}
use Rattle.system_model.specs.declared.components.Rates.{Rates}
use Rattle.system_tables.specs.declared.columns.FoundColumn.{FoundColumn}
use Rattle.system_tables.specs.declared.faults.Cause.TheVariants.{Number, OutOfRange, NameTwice, NameUnknown, Empty, BothRatesZero}
use Rattle.system_tables.specs.declared.faults.Column.{Column}
use Rattle.system_tables.specs.declared.faults.Place.{Place}
use Rattle.system_tables.specs.declared.fields.RateColumns.{RateColumns}
use Rattle.system_tables.specs.Columns.{field_of}
use Rattle.system_tables.specs.Faults.{Read, ◌>>=◌, fault_at, refuse}
use Rattle.system_tables.specs.Names.{Names, is_among}
use Rattle.system_tables.specs.Records.{Row}

-- a value between two bounds
pub record AreInRange (low most value : ℕ) : Type 0 where
  pub at_least : low ≤ value
  pub at_most : value ≤ most

-- the number, or its fault
abbrev pub number : Place → Column → Result ℕ NumberFault → Read ℕ
number place column (Ok value) = Ok value
number place column (Err fault) = Err (fault_at place column (Number fault))

-- the value, unless it passes a bound
unfoldable pub ranged : Place → Column → ℕ → ℕ → ℕ → Read ℕ
ranged place column low most value = do
  _ ← refuse (nat_lt value low) (fault_at place column (OutOfRange value low))
  _ ← refuse (nat_lt most value) (fault_at place column (OutOfRange value most))
  Ok value

-- a whole number between two bounds
unfoldable pub whole_in : Place → FoundColumn → ℕ → ℕ → Row → Read ℕ
whole_in place found low most row = do
  value ← number place found.column (whole_of (field_of found row))
  ranged place found.column low most value

-- a whole number that is compared with another field of its row
unfoldable pub value_in : Place → FoundColumn → Row → Read ℕ
value_in place found row = number place found.column (whole_of (field_of found row))

-- a probability in billionths, rounded down
unfoldable pub probability_in : Place → FoundColumn → Row → Read ℕ
probability_in place found row = do
  value ← number place found.column (billionths_of (field_of found row))
  ranged place found.column 0 BILLION value

-- an efficiency or a carryover in thousandths, rounded down: at least 1
unfoldable pub share_in : Place → FoundColumn → Row → Read ℕ
share_in place found row = do
  value ← number place found.column (billionths_of (field_of found row))
  ranged place found.column 1 THOUSAND (value / 1000000)

-- the failure rate, then the repair rate
unfoldable pub rates_in : Place → RateColumns → Row → Read Rates
rates_in place columns row = do
  f ← probability_in place columns.failure row
  r ← probability_in place columns.repair row
  Ok (record { f = f; r = r })

-- not both rates are 0
unfoldable pub some_rate_in : Place → RateColumns → Rates → Read (Unit {0})
some_rate_in place columns rates =
    refuse ((rates.f == 0) && (rates.r == 0)) (fault_at place columns.repair.column BothRatesZero)

-- a name has a byte, and at most 64
unfoldable pub name_bytes_in : Place → Column → List ℕ → Read (Unit {0})
name_bytes_in place column name = do
  _ ← refuse (length name == 0) (fault_at place column Empty)
  refuse (nat_lt MOST_NAME_BYTES (length name))
      (fault_at place column (OutOfRange (length name) MOST_NAME_BYTES))

-- a name that differs from those above it
unfoldable pub name_in : Place → FoundColumn → Names → Row → Read (List ℕ)
name_in place found above row = do
  _ ← name_bytes_in place found.column (field_of found row)
  _ ← refuse (is_among (field_of found row) above) (fault_at place found.column NameTwice)
  Ok (field_of found row)

-- the name of a zone, which isn't `hour`, as if that stood above
unfoldable pub zone_name_in : Place → FoundColumn → Names → Row → Read (List ℕ)
zone_name_in place found above row = do
  _ ← refuse (bytes_eq (field_of found row) (codes "hour")) (fault_at place found.column NameTwice)
  name_in place found above row

abbrev pub or_unknown : Place → Column → Option ℕ → Read ℕ
or_unknown place column None = Err (fault_at place column NameUnknown)
or_unknown place column (Some at) = Ok at

-- the place of the row that has this name, from 0
unfoldable pub reference_in : Place → FoundColumn → Names → Row → Read ℕ
reference_in place found names row =
    or_unknown place found.column (position (bytes_eq (field_of found row)) names)
