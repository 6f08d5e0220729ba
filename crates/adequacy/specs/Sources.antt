-- Where the system comes from on which a line runs: the tables of its folder spell it, or a trial's number makes it.
use Rattle.std.specs.Prelude.{◌≡◌, ℕ, List, [], Option, None, Some, Result, Ok, Err, if◌then◌else◌}
use Rattle.ra_base.specs.Outside.{Tables}
use Rattle.ra_base.specs.declared.table.TableName.{TableName}
use Rattle.ra_base.specs.declared.table.TableBytes.{TableBytes}
use Rattle.system_maker.specs.MadeSystem.{made_system}
use Rattle.system_model.specs.System.{SystemParts}
use Rattle.adequacy.specs.CommandWords.{is_trial}
use Rattle.adequacy.specs.Folder.{folder_outcome, stored_tables, table_order}
use Rattle.adequacy.specs.LineParts.{LineParts}
use Rattle.adequacy.specs.declared.tables.FolderError.{FolderError}
use Rattle.adequacy.specs.declared.tables.FolderError.TheVariants.{Refused}
use Rattle.adequacy.specs.declared.tables.Refusal.{Refusal}

-- the number that a line makes its system from, where it does
abbrev pub made_number : LineParts → Option ℕ
made_number line = if is_trial line.command then Some line.number else None

-- the tables that are read, in their order: none where the system is made
abbrev pub tables_read : Option ℕ → List TableName
tables_read (Some number) = []
tables_read None = table_order

-- the system that a number makes, or what the folder comes to by what its reads came to
abbrev pub system_outcome : Option ℕ → Result TableBytes FolderError → Result SystemParts FolderError
system_outcome (Some number) tables = Ok (made_system number)
system_outcome None tables = folder_outcome tables

-- what a line's system comes to on the stored tables of its folder
abbrev pub stored_outcome : Tables → LineParts → Result SystemParts FolderError
stored_outcome stored line = system_outcome (made_number line) (stored_tables stored line.place)

-- a line runs on this system
abbrev pub RunsFor : Tables → LineParts → SystemParts → Type 0
RunsFor stored line system = stored_outcome stored line ≡ Ok system

-- the stored tables of a line's folder are refused for this reason: the first of them in their order that is missing
-- or too long, or else their first fault
abbrev pub IsRefused : Tables → LineParts → Refusal → Type 0
IsRefused stored line refusal = stored_outcome stored line ≡ Err (Refused refusal)
