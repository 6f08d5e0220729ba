-- From how a line ended to what is told of it.
use Rattle.std.proofs.Common.{ℕ, List, Option, Result, Err, inl, inr}
use Rattle.ra_base.specs.Outside.{Tables}
use Rattle.ra_base.specs.Reading.{Reading}
use Rattle.ra_base.specs.declared.shelf_counts.ShelfCounts.{ShelfCounts}
use Rattle.ra_base.specs.declared.status.Status.{Status}
use Rattle.ra_base.specs.declared.table.TableBytes.{TableBytes}
use Rattle.sample_totals.specs.Recorders.{Seen}
use Rattle.system_model.specs.System.{SystemParts}
use Rattle.adequacy.specs.declared.endings.Failure.{Failure}
use Rattle.adequacy.specs.declared.endings.Failure.TheVariants.{Words, Refused, ReadFault, WriteFault, RecorderRefused, Cancelled, OutOfMemory}
use Rattle.adequacy.specs.declared.tables.FolderError.{FolderError}
use Rattle.adequacy.specs.declared.words.request.Request.{Request}
use Rattle.campaign_console.specs.LineEnds.{Outside}
use Rattle.adequacy.specs.Consoles.{ConsoleEnds}
use Rattle.adequacy.specs.Endings.{Ending, Ends, HasRun, Tells, Reports}
use Rattle.adequacy.specs.Folder.{no_tables, HasRead}
use Rattle.adequacy.specs.LineParts.{LineParts}
use Rattle.adequacy.specs.Requests.{request_of}
use Rattle.adequacy.specs.Sources.{made_number, system_outcome, tables_read}
use Rattle.adequacy.specs.declared.words.request.ConsoleTerms.{ConsoleTerms}

-- what was told is an ending that the run may have had
pub told_of : (request : Request) (seen : List Seen) (came : Result SystemParts FolderError) (failure : Failure) (ends : Status) (held held' said said' : Option (List ℕ)) (faults faults' : ℕ)
    → Ends request seen came (Err failure) held held' → Reports failure ends said said' faults faults'
    → (ending : Ending) × Ends request seen came ending held held' × Tells ending ends said said' faults faults'
told_of request seen came (Words fault) ends held held' said said' f f' ended told = absurd ended
told_of request seen came ReadFault ends held held' said said' f f' ended told = (Err ReadFault, ended, told)
told_of request seen came WriteFault ends held held' said said' f f' ended told = (Err WriteFault, ended, told)
told_of request seen came RecorderRefused ends held held' said said' f f' ended told = (Err RecorderRefused, ended, told)
told_of request seen came Cancelled ends held held' said said' f f' ended told = (Err Cancelled, ended, told)
told_of request seen came OutOfMemory ends held held' said said' f f' ended told = (Err OutOfMemory, ended, told)
told_of request seen came (Refused refusal) ends held held' said said' f f' ended (inl told) = (Err (Refused refusal), ended, told)
told_of request seen came (Refused refusal) ends held held' said said' f f' ended (inr told) = (Err OutOfMemory, ended.1, told)

-- so a line has run whose failure was told
pub run_told : (contents : Option Tables) (line : LineParts) (seen : List Seen) (failure : Failure) (ends : Status) (reads reads' : List Reading) (counts counts' : ShelfCounts) (held held' said said' : Option (List ℕ)) (faults faults' : ℕ)
    → (tables : Result TableBytes FolderError)
    → HasRead contents line.place no_tables (tables_read (made_number line)) tables reads reads' counts counts'
    → Ends (request_of line) seen (system_outcome (made_number line) tables) (Err failure) held held'
    → Reports failure ends said said' faults faults'
    → HasRun contents line seen ends reads reads' counts counts' held held' said said' faults faults'
run_told contents line seen failure ends reads reads' counts counts' held held' said said' faults faults' tables read ended told =
    let as_told = told_of (request_of line) seen (system_outcome (made_number line) tables) failure ends held held' said said' faults faults' ended told in
    record {
      tables = tables;
      ending = as_told.0;
      read = read;
      ended = as_told.1;
      told = as_told.2;
    }

-- the same of a console
pub told_of_console : (terms : ConsoleTerms) (came : Result SystemParts FolderError) (failure : Failure) (ends : Status) (before now : Outside) (said said' : Option (List ℕ)) (faults faults' : ℕ)
    → ConsoleEnds terms came (Err failure) before now → Reports failure ends said said' faults faults'
    → (ending : Ending) × ConsoleEnds terms came ending before now × Tells ending ends said said' faults faults'
told_of_console terms came (Words fault) ends before now said said' f f' ended told = absurd ended
told_of_console terms came ReadFault ends before now said said' f f' ended told = (Err ReadFault, ended, told)
told_of_console terms came WriteFault ends before now said said' f f' ended told = (Err WriteFault, ended, told)
told_of_console terms came RecorderRefused ends before now said said' f f' ended told = absurd ended
told_of_console terms came Cancelled ends before now said said' f f' ended told = (Err Cancelled, ended, told)
told_of_console terms came OutOfMemory ends before now said said' f f' ended told = (Err OutOfMemory, ended, told)
told_of_console terms came (Refused refusal) ends before now said said' f f' ended (inl told) = (Err (Refused refusal), ended, told)
told_of_console terms came (Refused refusal) ends before now said said' f f' ended (inr told) = (Err OutOfMemory, inl ended.1, told)
