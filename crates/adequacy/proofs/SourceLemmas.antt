-- A system that is made needs no table.
use Rattle.std.proofs.Common.{◌≡◌, ℕ, List, Option, true, Result, Ok}
use Rattle.ra_base.specs.Outside.{Tables}
use Rattle.ra_base.specs.Reading.{Reading}
use Rattle.ra_base.specs.declared.shelf_counts.ShelfCounts.{ShelfCounts}
use Rattle.ra_base.specs.declared.table.TableBytes.{TableBytes}
use Rattle.system_maker.specs.MadeSystem.{made_system}
use Rattle.system_model.specs.System.{SystemParts}
use Rattle.adequacy.specs.CommandWords.{is_trial}
use Rattle.adequacy.specs.Folder.{no_tables, ComesTo, HasRead}
use Rattle.adequacy.specs.LineParts.{LineParts}
use Rattle.adequacy.specs.Sources.{made_number, system_outcome, tables_read}
use Rattle.adequacy.specs.declared.tables.FolderError.{FolderError}
use Rattle.adequacy.proofs.FolderLemmas.{read_none}

-- what a trial's line comes to without a read
abbrev pub ComesUnread : Option Tables → LineParts → Option ℕ → Result SystemParts FolderError → List Reading → ShelfCounts → Type 0
ComesUnread contents line number result reads counts =
    (tables : Result TableBytes FolderError) × ComesTo (system_outcome number tables) result
    × HasRead contents line.place no_tables (tables_read number) tables reads reads counts counts

pub made_unread : (contents : Option Tables) (line : LineParts) (result : Result SystemParts FolderError) (reads : List Reading) (counts : ShelfCounts)
    → is_trial line.command ≡ true → ComesTo (Ok (made_system line.number)) result → ComesUnread contents line (made_number line) result reads counts
made_unread contents line result reads counts trial made =
    rw trial (Ok no_tables, made, read_none contents line.place no_tables reads counts)
