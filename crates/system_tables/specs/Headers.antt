-- The first record of a table.
use Rattle.std.specs.Prelude.{◌≡◌, [], ◌∷◌, Result, Ok, Err}
use Rattle.ra_base.specs.declared.table.TableName.{TableName}
use Rattle.system_tables.specs.declared.faults.Cause.TheVariants.{NoHeader}
use Rattle.system_tables.specs.declared.faults.Column.TheVariants.{Whole}
use Rattle.system_tables.specs.declared.faults.ReadError.{ReadError}
use Rattle.system_tables.specs.declared.faults.ReadError.TheVariants.{Table, OutOfMemory}
use Rattle.system_tables.specs.Faults.{fault_at, row_of}
use Rattle.system_tables.specs.Records.{Rows, RecordsLeft}

-- the first of the records is read, or there is none
abbrev pub IsHeaderRead : {U : Type 0} → TableName → Rows → RecordsLeft → Result U ReadError → Type 0
IsHeaderRead table before after (Ok _) = before ≡ after.row ∷ after.rest
IsHeaderRead table before after (Err (Table fault)) =
    (before ≡ []) × (fault ≡ fault_at (row_of table 1) Whole NoHeader)
IsHeaderRead table before after (Err OutOfMemory) = Unit {0}
