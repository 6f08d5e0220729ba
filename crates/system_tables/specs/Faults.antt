-- A fault and its row, and how tests follow one another so that the first fault is found.
use Rattle.std.specs.Prelude.{ℕ, ◌+◌, ◌==◌, not, Bool, true, false, List, [], ◌∷◌, length, nat_le, Result, Ok, Err}
use Rattle.ra_base.specs.declared.table.TableName.{TableName}
use Rattle.system_tables.specs.declared.faults.TableFault.{TableFault}
use Rattle.system_tables.specs.declared.faults.Place.{Place}
use Rattle.system_tables.specs.declared.faults.Column.{Column}
use Rattle.system_tables.specs.declared.faults.Column.TheVariants.{Whole}
use Rattle.system_tables.specs.declared.faults.Cause.{Cause}
use Rattle.system_tables.specs.declared.faults.Cause.TheVariants.{NoHeader, FieldCount, TooMany}
use Rattle.system_tables.specs.Records.{Row, Rows}

-- what is read, or the fault that is met first
abbrev pub Read : Type 0 → Type 0
Read A = Result A TableFault

-- what comes next is met where nothing was refused before
infixl 10 ◌>>=◌
abbrev pub ◌>>=◌ : {A B : Type 0} → Result A TableFault → (A → Read B) → Read B
(Ok x) >>= f = f x
(Err e) >>= f = Err e

-- the fault with this cause in this row
abbrev pub fault_at : Place → Column → Cause → TableFault
fault_at place column cause = record { table = place.table; row = place.row; column = column; cause = cause }

-- a row of a table
abbrev pub row_of : TableName → ℕ → Place
row_of table row = record { table = table; row = row }

-- The data row below so many others. The header is row 1.
abbrev pub below : TableName → ℕ → Place
below table count = row_of table (count + 2)

-- the fault, where the test holds
abbrev pub refuse : Bool → TableFault → Read (Unit {0})
refuse true fault = Err fault
refuse false fault = Ok tt

-- the items in turn, each by what was read above it
unfoldable pub in_turn : {A B : Type 0} → (A → B → Read A) → A → List B → Read A
in_turn one above [] = Ok above
in_turn one above (item ∷ items) = one above item >>= (λ next. in_turn one next items)

-- a table's header and its rows, where it has a record
abbrev pub table_in : {A : Type 0} → TableName → Rows → (Row → Rows → Read A) → Read A
table_in table [] read = Err (fault_at (row_of table 1) Whole NoHeader)
table_in table (header ∷ rows) read = read header rows

-- a row past the limit, then a row of another length than the header
unfoldable pub shape_in : Place → ℕ → ℕ → ℕ → Row → Read (Unit {0})
shape_in place limit count width row = do
  _ ← refuse (nat_le limit count) (fault_at place Whole (TooMany limit))
  refuse (not (length row == width)) (fault_at place Whole FieldCount)
