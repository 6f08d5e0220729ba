-- What a shelf of tables and a sink of bytes answer.
use Rattle.std.specs.Prelude.{◌≡◌, ◌≤◌, ◌<◌, ℕ, List, Option, Some, None, Result, Ok, Err, length}
use Rattle.ra_base.specs.Causes.{Gained, GainedPart}
use Rattle.ra_base.specs.declared.limits.TheConstants.{MOST_TABLE_BYTES}
use Rattle.ra_base.specs.declared.table.TableName.{TableName}
use Rattle.ra_base.specs.declared.status.Status.{Status}
use Rattle.ra_base.specs.declared.status.Status.TheVariants.{Done, Words, Table, ReadFault, WriteFault, OutOfMemory, Cancelled, RecorderRefused}
use Rattle.ra_base.specs.declared.shelf.ShelfError.{ShelfError}
use Rattle.ra_base.specs.declared.shelf.ShelfError.TheVariants.{Missing, TooLong, Fault}
use Rattle.ra_base.specs.declared.shelf.ShelfError.TheVariants.{OutOfMemory as NoMemory}

-- the tables of all folders: the bytes of a table, by the folder's name and the table
abbrev pub Tables : Type 0
Tables = List ℕ → TableName → Option (List ℕ)

-- a read's answer is that of the stored table: its bytes, or that there is none, or that it is too long
abbrev pub ReadsAs : Option (List ℕ) → Result (List ℕ) ShelfError → Type 0
ReadsAs stored (Ok text) = (stored ≡ Some text) × (length text ≤ MOST_TABLE_BYTES)
ReadsAs stored (Err Missing) = stored ≡ None
ReadsAs stored (Err TooLong) = (text : List ℕ) × (stored ≡ Some text) × (MOST_TABLE_BYTES < length text)
ReadsAs stored (Err Fault) = Unit {0}
ReadsAs stored (Err NoMemory) = Unit {0}

-- the same where the shelf tells its tables, and nothing where it doesn't
abbrev pub ReadsTold : Option Tables → List ℕ → TableName → Result (List ℕ) ShelfError → Type 0
ReadsTold None folder table answer = Unit {0}
ReadsTold (Some tables) folder table answer = ReadsAs (tables folder table) answer

-- a write's answer: after Ok the whole piece was appended, after a fault the first bytes of it
abbrev pub Writes : {E : Type 0} → Option (List ℕ) → Option (List ℕ) → List ℕ → Result (Unit {0}) E → Type 0
Writes before now piece (Ok done) = Gained before now piece
Writes before now piece (Err fault) = GainedPart before now piece

-- the exit status of the program
abbrev pub status_code : Status → ℕ
status_code Done = 0
status_code Words = 2
status_code Table = 3
status_code ReadFault = 4
status_code WriteFault = 5
status_code OutOfMemory = 6
status_code Cancelled = 7
status_code RecorderRefused = 8
