-- A line's run, by all that it touches outside.
use Rattle.std.specs.Prelude.{◌≡◌, ◌≤◌, ◌⊎◌, ℕ, Bool, true, false, List, None, Option, Some, Result, Ok, Err}
use Rattle.ra_base.specs.Causes.{Counts, Rose}
use Rattle.ra_base.specs.Outside.{Tables}
use Rattle.ra_base.specs.Reading.{Reading}
use Rattle.ra_base.specs.declared.shelf_counts.ShelfCounts.{ShelfCounts}
use Rattle.ra_base.specs.declared.status.Status.{Status}
use Rattle.ra_base.specs.declared.status.Status.TheVariants as status
use Rattle.ra_base.specs.declared.table.TableBytes.{TableBytes}
use Rattle.campaign_console.specs.LineEnds.{Outside}
use Rattle.sample_totals.specs.Recorders.{Seen}
use Rattle.system_model.specs.System.{SystemParts}
use Rattle.adequacy.specs.Consoles.{console_of, ConsoleEnds, HasConsoled}
use Rattle.adequacy.specs.Endings.{AnswerGained, Ending, Ends, Tells}
use Rattle.adequacy.specs.Folder.{no_tables, HasRead}
use Rattle.adequacy.specs.LineParts.{LineParts}
use Rattle.adequacy.specs.Requests.{request_of}
use Rattle.adequacy.specs.Sources.{made_number, stored_outcome, system_outcome, tables_read}
use Rattle.adequacy.specs.declared.endings.Failure.TheVariants.{Cancelled, OutOfMemory, ReadFault}
use Rattle.adequacy.specs.declared.tables.FolderError.{FolderError}
use Rattle.adequacy.specs.declared.words.request.ConsoleTerms.{ConsoleTerms}
use Rattle.adequacy.specs.declared.words.request.Request.{Request}

-- the console is as it was
pub record IsUnasked (before now : Outside) : Type 0 where
  pub left : now.left ≡ before.left
  pub heard : now.heard ≡ before.heard
  pub reads : now.reads ≡ before.reads

-- how a request ends, by what its system came to: a console by the history of its campaign, any other by what it
-- writes, and it leaves the console as it was
abbrev pub EndsBy : Option ConsoleTerms → Request → List Seen → Result SystemParts FolderError → Ending → Outside → Outside → Type 0
EndsBy None request seen came ending before now =
    Ends request seen came ending before.held now.held × IsUnasked before now
EndsBy (Some terms) request seen came ending before now = ConsoleEnds terms came ending before now

abbrev pub RunEnds : Request → List Seen → Result SystemParts FolderError → Ending → Outside → Outside → Type 0
RunEnds request seen came ending before now = EndsBy (console_of request) request seen came ending before now

-- a line has run: the tables of its folder were read up to the first that ends the reading, or none where its system
-- is made; the run ended as that system and the command have it, and that was told
pub record LineRan (contents : Option Tables) (line : LineParts) (seen : List Seen) (ends : Status) (reads reads' : List Reading) (counts counts' : ShelfCounts) (before now : Outside) (said said' : Option (List ℕ)) (faults faults' : ℕ) : Type 0 where
  pub tables : Result TableBytes FolderError
  pub ending : Ending
  pub read : HasRead contents line.place no_tables (tables_read (made_number line)) tables reads reads' counts counts'
  pub ended : RunEnds (request_of line) seen (system_outcome (made_number line) tables) ending before now
  pub told : Tells ending ends said said' faults faults'

-- memory wasn't found before anything was read
pub record HasNotRun (ends : Status) (reads reads' : List Reading) (counts counts' : ShelfCounts) (before now : Outside) (said said' : Option (List ℕ)) (faults faults' : ℕ) : Type 0 where
  pub noted : reads' ≡ reads
  pub counted : counts' ≡ counts
  pub untouched : now ≡ before
  pub told : Tells (Err OutOfMemory) ends said said' faults faults'

-- a line has run, or memory wasn't found before anything was read
abbrev pub MayRun : Option Tables → LineParts → List Seen → Status → List Reading → List Reading → ShelfCounts → ShelfCounts → Outside → Outside → Option (List ℕ) → Option (List ℕ) → ℕ → ℕ → Type 0
MayRun contents line seen ends reads reads' counts counts' before now said said' faults faults' =
    LineRan contents line seen ends reads reads' counts counts' before now said said' faults faults'
    ⊎ HasNotRun ends reads reads' counts counts' before now said said' faults faults'

-- a read of the shelf failed, which it counted
abbrev pub ShelfFailed : Ending → ShelfCounts → ShelfCounts → Type 0
ShelfFailed ending counts counts' = (ending ≡ Err ReadFault) × Rose counts.faults counts'.faults

-- a line has run on the stored tables of its folder, unless a read of them failed
pub record RunsOn (stored : Tables) (line : LineParts) (seen : List Seen) (ends : Status) (counts counts' : ShelfCounts) (before now : Outside) (said said' : Option (List ℕ)) (faults faults' : ℕ) : Type 0 where
  pub ending : Ending
  pub ended :
      ShelfFailed ending counts counts'
      ⊎ RunEnds (request_of line) seen (stored_outcome stored line) ending before now
  pub told : Tells ending ends said said' faults faults'

-- a request was answered for a system: its text was written, or its console came to the end of its lines
abbrev pub AnsweredBy : Option ConsoleTerms → Request → List Seen → SystemParts → Status → Outside → Outside → Type 0
AnsweredBy None request seen system ends before now =
    (ends ≡ status.Done) × AnswerGained request seen system before.held now.held
AnsweredBy (Some terms) request seen system ends before now =
    ((ends ≡ status.Done) × HasConsoled system terms (Ok tt) before now)
    ⊎ ((ends ≡ status.Cancelled) × HasConsoled system terms (Err Cancelled) before now)

abbrev pub Answered : Request → List Seen → SystemParts → Status → Outside → Outside → Type 0
Answered request seen system ends before now = AnsweredBy (console_of request) request seen system ends before now

-- A count of faults over a run: it rose where the run ended for such a fault, may have risen where memory wasn't
-- found, which is told first, and else stands still.
abbrev pub FaultCounts : Bool → Status → ℕ → ℕ → Type 0
FaultCounts true ends before now = Counts true before now
FaultCounts false status.OutOfMemory before now = before ≤ now
FaultCounts false ends before now = Counts false before now

-- a read of the shelf or one of the console failed where the run ended for that, and never both
abbrev pub ReadFaults : Status → ℕ → ℕ → ℕ → ℕ → Type 0
ReadFaults status.ReadFault shelf shelf' console console' =
    (Counts true shelf shelf' × Counts false console console')
    ⊎ (Counts false shelf shelf' × Counts true console console')
ReadFaults ends shelf shelf' console console' =
    Counts false shelf shelf' × FaultCounts false ends console console'
