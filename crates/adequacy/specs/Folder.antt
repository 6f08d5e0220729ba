-- A folder of tables: what the reads of a shelf have answered, and the system or the refusal that they come to.
use Rattle.std.specs.Prelude.{◌≡◌, ◌⊎◌, ℕ, nat_le, Bool, true, false, List, [], ◌∷◌, ◌++◌, length, Option, Some, None, Result, Ok, Err, if◌then◌else◌}
use Rattle.ra_base.specs.declared.limits.TheConstants.{MOST_TABLE_BYTES}
use Rattle.ra_base.specs.Outside.{Tables, ReadsTold}
use Rattle.ra_base.specs.Reading.{Reading, reading}
use Rattle.ra_base.specs.ShelfCounts.{counted}
use Rattle.ra_base.specs.declared.shelf_counts.ShelfCounts.{ShelfCounts}
use Rattle.ra_base.specs.declared.shelf.ShelfError.{ShelfError}
use Rattle.ra_base.specs.declared.shelf.ShelfError.TheVariants.{Missing as NoTable, TooLong as LongTable, Fault as ReadFailed, OutOfMemory as NoRoom}
use Rattle.ra_base.specs.declared.table.TableName.{TableName}
use Rattle.ra_base.specs.declared.table.TableName.TheVariants.{Zones, Units, Interfaces, Lines, Storages, Load, Variable}
use Rattle.ra_base.specs.declared.table.TableBytes.{TableBytes}
use Rattle.system_model.specs.System.{SystemParts}
use Rattle.system_tables.specs.Tables.{system_of}
use Rattle.system_tables.specs.declared.faults.TableFault.{TableFault}
use Rattle.adequacy.specs.declared.tables.Refusal.TheVariants.{Missing, TooLong, Fault}
use Rattle.adequacy.specs.declared.tables.FolderError.{FolderError}
use Rattle.adequacy.specs.declared.tables.FolderError.TheVariants.{Refused, ReadFault, OutOfMemory}

-- the answer of one read: the table's bytes, or why there are none
abbrev pub Answer : Type 0
Answer = Result (List ℕ) ShelfError

-- the tables in the order in which they are read
abbrev pub table_order : List TableName
table_order = Zones ∷ Units ∷ Interfaces ∷ Lines ∷ Storages ∷ Load ∷ Variable ∷ []

-- a table that a system can do without: where it is missing it has no rows
abbrev pub can_be_missing : TableName → Bool
can_be_missing Zones = false
can_be_missing Units = false
can_be_missing Interfaces = true
can_be_missing Lines = true
can_be_missing Storages = true
can_be_missing Load = false
can_be_missing Variable = true

-- what an answer comes to: the table's bytes, or that there is none where it may be missing, or why the folder
-- gives no system
abbrev pub read_outcome : TableName → Answer → Result (Option (List ℕ)) FolderError
read_outcome table (Ok text) = Ok (Some text)
read_outcome table (Err NoTable) = if can_be_missing table then Ok None else Err (Refused (Missing table))
read_outcome table (Err LongTable) = Err (Refused (TooLong table))
read_outcome table (Err ReadFailed) = Err ReadFault
read_outcome table (Err NoRoom) = Err OutOfMemory

-- no table yet
abbrev pub no_tables : TableBytes
no_tables =
    record {
      zones = None;
      units = None;
      interfaces = None;
      lines = None;
      storages = None;
      load = None;
      variable = None;
    }

-- the tables with one of them set
abbrev pub with_table : TableBytes → TableName → Option (List ℕ) → TableBytes
with_table tables Zones text = record tables { zones = text }
with_table tables Units text = record tables { units = text }
with_table tables Interfaces text = record tables { interfaces = text }
with_table tables Lines text = record tables { lines = text }
with_table tables Storages text = record tables { storages = text }
with_table tables Load text = record tables { load = text }
with_table tables Variable text = record tables { variable = text }

-- tables of this order were read with these answers, up to the first that ends the reading, and this is what came of
-- them on top of the tables before
abbrev pub HasAnswered : TableBytes → List TableName → List Answer → Result TableBytes FolderError → Type 0
HasAnswered tables [] answers outcome = (answers ≡ []) × (outcome ≡ Ok tables)
HasAnswered tables (table ∷ order) [] outcome = ⊥
HasAnswered tables (table ∷ order) (answer ∷ answers) outcome =
    elim (read_outcome table answer) [
      | Ok text ↦ HasAnswered (with_table tables table text) order answers outcome
      | Err error ↦ (answers ≡ []) × (outcome ≡ Err error)
    ]

-- the reads of a folder with these answers, one table after another
abbrev pub readings : List ℕ → List TableName → List Answer → List Reading
readings folder order [] = []
readings folder [] (answer ∷ answers) = []
readings folder (table ∷ order) (answer ∷ answers) = reading folder table answer ∷ readings folder order answers

-- the counts of a shelf after reads with these answers
abbrev pub counts_after : ShelfCounts → List Answer → ShelfCounts
counts_after counts [] = counts
counts_after counts (answer ∷ answers) = counts_after (counted counts answer) answers

-- where the shelf tells its tables, each answer is that of the stored table
abbrev pub AreTold : Option Tables → List ℕ → List TableName → List Answer → Type 0
AreTold contents folder order [] = Unit {0}
AreTold contents folder [] (answer ∷ answers) = Unit {0}
AreTold contents folder (table ∷ order) (answer ∷ answers) =
    ReadsTold contents folder table answer × AreTold contents folder order answers

-- the tables of a folder in this order were read with these answers, and this is what came of them on top of the
-- tables before; the shelf has noted and counted just these reads
pub record HasRead (contents : Option Tables) (folder : List ℕ) (tables : TableBytes) (order : List TableName) (outcome : Result TableBytes FolderError) (reads reads' : List Reading) (counts counts' : ShelfCounts) : Type 0 where
  pub answers : List Answer
  pub answered : HasAnswered tables order answers outcome
  pub noted : reads' ≡ reads ++ readings folder order answers
  pub counted : counts' ≡ counts_after counts answers
  pub told : AreTold contents folder order answers

-- what tables come to: the system that they spell, or their first fault
abbrev pub tables_outcome : Result SystemParts TableFault → Result SystemParts FolderError
tables_outcome (Ok system) = Ok system
tables_outcome (Err fault) = Err (Refused (Fault fault))

-- what a folder comes to, by what its reads came to: the system that its tables spell, or why it gives none
abbrev pub folder_outcome : Result TableBytes FolderError → Result SystemParts FolderError
folder_outcome (Ok tables) = tables_outcome (system_of tables)
folder_outcome (Err error) = Err error

-- the answer of a read that finds what is stored
abbrev pub stored_answer : Option (List ℕ) → Answer
stored_answer None = Err NoTable
stored_answer (Some text) = if nat_le (length text) MOST_TABLE_BYTES then Ok text else Err LongTable

-- what the stored tables of a folder in this order come to, on top of the tables before
abbrev pub stored_from : Tables → List ℕ → List TableName → TableBytes → Result TableBytes FolderError
stored_from stored folder [] tables = Ok tables
stored_from stored folder (table ∷ order) tables =
    elim (read_outcome table (stored_answer (stored folder table))) [
      | Ok text ↦ stored_from stored folder order (with_table tables table text)
      | Err error ↦ Err error
    ]

-- what the stored tables of a folder come to
unfoldable pub stored_tables : Tables → List ℕ → Result TableBytes FolderError
stored_tables stored folder = stored_from stored folder table_order no_tables

-- a result is this outcome, or memory wasn't found
abbrev pub ComesTo : Result SystemParts FolderError → Result SystemParts FolderError → Type 0
ComesTo outcome result = (result ≡ outcome) ⊎ (result ≡ Err OutOfMemory)

-- whether a read failed
abbrev pub is_read_failure : {T : Type 0} → Result T FolderError → Bool
is_read_failure (Ok value) = false
is_read_failure (Err (Refused refusal)) = false
is_read_failure (Err ReadFault) = true
is_read_failure (Err OutOfMemory) = false
