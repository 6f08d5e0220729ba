-- How a console ends: by the one history of its campaign.
use Rattle.std.specs.Prelude.{◌≡◌, ◌⊎◌, None, Option, Some, Result, Ok, Err}
use Rattle.campaign.specs.declared.book.Book.{Book}
use Rattle.campaign.specs.Passes.{IsWhole}
use Rattle.campaign_console.specs.declared.consoles.ConsoleEnd.{ConsoleEnd}
use Rattle.campaign_console.specs.declared.consoles.ConsoleEnd.TheVariants as end
use Rattle.campaign_console.specs.Ends.{EndsAs}
use Rattle.campaign_console.specs.LineEnds.{Outside}
use Rattle.sample_run.specs.SampleWorks.{WorkTerms}
use Rattle.sample_totals.specs.Totals.{Sheet}
use Rattle.system_model.specs.System.{SystemParts}
use Rattle.turn_book.specs.declared.view.View.{View}
use Rattle.adequacy.specs.Endings.{Ending}
use Rattle.adequacy.specs.declared.endings.Failure.TheVariants.{Words, Refused, ReadFault, WriteFault, RecorderRefused, Cancelled, OutOfMemory}
use Rattle.adequacy.specs.declared.tables.FolderError.{FolderError}
use Rattle.adequacy.specs.declared.tables.FolderError.TheVariants as folder
use Rattle.adequacy.specs.declared.words.request.ConsoleTerms.{ConsoleTerms}
use Rattle.adequacy.specs.declared.words.request.Request.{Request}
use Rattle.adequacy.specs.declared.words.request.Request.TheVariants.{Console}

-- which console a request asks for
abbrev pub console_of : Request → Option ConsoleTerms
console_of (Console terms) = Some terms
console_of request = None

-- the work over the samples of a console
abbrev pub console_work : SystemParts → ConsoleTerms → WorkTerms
console_work system terms = record { system = system; seed = terms.seed; precision = None }

-- how a run ends, by how its console did
abbrev pub console_ending : ConsoleEnd → Ending
console_ending end.Finished = Ok tt
console_ending end.Cancelled = Err Cancelled
console_ending end.ReadFault = Err ReadFault
console_ending end.WriteFault = Err WriteFault
console_ending end.OutOfMemory = Err OutOfMemory

-- A console over the samples of a system ended so: there is one legal history, which a pass has seen whole, of a
-- campaign that opened with the samples and the block of the terms; lines were answered by its opening pass's entries,
-- and what stands at the end is told by it.
pub record HasConsoled (system : SystemParts) (terms : ConsoleTerms) (ending : Ending) (before now : Outside) : Type 0 where
  pub pass : View (Book WorkTerms Sheet)
  pub whole : IsWhole pass
  pub target : pass.target ≡ terms.samples
  pub block : pass.block ≡ terms.block
  pub end : ConsoleEnd
  pub stands : EndsAs end (console_work system terms) before now pass
  pub ended : ending ≡ console_ending end

-- a console ended so for the system that its tables came to
abbrev pub IsConsoled : ConsoleTerms → Result SystemParts FolderError → Ending → Outside → Outside → Type 0
IsConsoled terms came ending before now =
    (system : SystemParts) × (came ≡ Ok system) × HasConsoled system terms ending before now

-- How a console's run ends, by what its system came to: as the console did, if there is a system and memory to open a
-- campaign. Where the tables are refused, or a read of them failed, nothing else is touched.
abbrev pub ConsoleEnds : ConsoleTerms → Result SystemParts FolderError → Ending → Outside → Outside → Type 0
ConsoleEnds terms came (Err (Words fault)) before now = ⊥
ConsoleEnds terms came (Err (Refused refusal)) before now = (came ≡ Err (folder.Refused refusal)) × (now ≡ before)
ConsoleEnds terms came (Err RecorderRefused) before now = ⊥
ConsoleEnds terms came (Err ReadFault) before now =
    ((came ≡ Err folder.ReadFault) × (now ≡ before)) ⊎ IsConsoled terms came (Err ReadFault) before now
ConsoleEnds terms came (Err OutOfMemory) before now =
    (now ≡ before) ⊎ IsConsoled terms came (Err OutOfMemory) before now
ConsoleEnds terms came ending before now = IsConsoled terms came ending before now
