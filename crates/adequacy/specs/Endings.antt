-- How a run of the program ends: its status, what `out` has gained, and the line on `err`.
use Rattle.std.specs.Prelude.{◌≡◌, ◌⊎◌, ℕ, List, [], ◌∷◌, ◌++◌, map, codes, Bool, true, false, Option, Some, Result, Ok, Err}
use Rattle.ra_base.specs.Causes.{Counts, Gained, GainedPart}
use Rattle.ra_base.specs.Outside.{Tables}
use Rattle.ra_base.specs.Reading.{Reading}
use Rattle.ra_base.specs.declared.shelf_counts.ShelfCounts.{ShelfCounts}
use Rattle.ra_base.specs.declared.status.Status.{Status}
use Rattle.ra_base.specs.declared.status.Status.TheVariants as status
use Rattle.ra_base.specs.declared.table.TableBytes.{TableBytes}
use Rattle.sample_totals.specs.Recorders.{Seen}
use Rattle.system_model.specs.System.{SystemParts}
use Rattle.adequacy.specs.Commands.{IsAnswer}
use Rattle.report_text.specs.FaultText.{table_text, fault_line}
use Rattle.adequacy.specs.Folder.{no_tables, HasRead}
use Rattle.adequacy.specs.LineParts.{LineParts}
use Rattle.adequacy.specs.Requests.{request_of}
use Rattle.adequacy.specs.Sources.{made_number, system_outcome, stored_outcome, tables_read}
use Rattle.adequacy.specs.Traces.{Leaves, trace_of}
use Rattle.adequacy.specs.WordFaultText.{word_fault_text}
use Rattle.adequacy.specs.declared.endings.Failure.{Failure}
use Rattle.adequacy.specs.declared.endings.Failure.TheVariants.{Words, Refused, ReadFault, WriteFault, RecorderRefused, Cancelled, OutOfMemory}
use Rattle.adequacy.specs.declared.endings.Unread.{Unread}
use Rattle.adequacy.specs.declared.endings.Unread.TheVariants as unread
use Rattle.adequacy.specs.declared.tables.FolderError.{FolderError}
use Rattle.adequacy.specs.declared.tables.FolderError.TheVariants as folder
use Rattle.adequacy.specs.declared.tables.Refusal.{Refusal}
use Rattle.adequacy.specs.declared.tables.Refusal.TheVariants.{Missing, TooLong, Fault}
use Rattle.adequacy.specs.declared.traces.TextError.{TextError}
use Rattle.adequacy.specs.declared.traces.TextError.TheVariants as text_error
use Rattle.adequacy.specs.declared.words.fault.WordFault.{WordFault}
use Rattle.adequacy.specs.declared.words.fault.WordFault.TheVariants.{Usage}
use Rattle.adequacy.specs.declared.words.fault.WordsError.{WordsError}
use Rattle.adequacy.specs.declared.words.fault.WordsError.TheVariants as words
use Rattle.adequacy.specs.declared.words.request.Request.{Request}
use Rattle.adequacy.specs.declared.words.request.TraceTerms.{TraceTerms}

-- a run answers, or fails
abbrev pub Ending : Type 0
Ending = Result (Unit {0}) Failure

-- the failure of a run whose folder gives no system
abbrev pub failure_of : FolderError → Failure
failure_of (folder.Refused refusal) = Refused refusal
failure_of folder.ReadFault = ReadFault
failure_of folder.OutOfMemory = OutOfMemory

-- the failure of a run whose words give no line
abbrev pub failure_of_words : WordsError → Failure
failure_of_words (words.Words fault) = Words fault
failure_of_words words.OutOfMemory = OutOfMemory

-- the failure of a run that has no words to read
abbrev pub unread_failure : Unread → Failure
unread_failure unread.NotText = Words Usage
unread_failure unread.OutOfMemory = OutOfMemory

-- the status of a failure, and of an ending
abbrev pub failure_status : Failure → Status
failure_status (Words fault) = status.Words
failure_status (Refused refusal) = status.Table
failure_status ReadFault = status.ReadFault
failure_status WriteFault = status.WriteFault
failure_status RecorderRefused = status.RecorderRefused
failure_status Cancelled = status.Cancelled
failure_status OutOfMemory = status.OutOfMemory

abbrev pub ending_status : Ending → Status
ending_status (Ok done) = status.Done
ending_status (Err failure) = failure_status failure

-- the line of a refused folder; 10 is the line feed
abbrev pub refusal_line : Refusal → List ℕ
refusal_line (Missing table) = codes "table " ++ table_text table ++ codes " missing" ++ 10 ∷ []
refusal_line (TooLong table) = codes "table " ++ table_text table ++ codes " too long" ++ 10 ∷ []
refusal_line (Fault fault) = fault_line fault

-- the line of a failure
abbrev pub error_line : Failure → List ℕ
error_line (Words fault) = word_fault_text fault
error_line (Refused refusal) = refusal_line refusal
error_line ReadFault = codes "read fault" ++ 10 ∷ []
error_line WriteFault = codes "write fault" ++ 10 ∷ []
error_line RecorderRefused = codes "recorder refused" ++ 10 ∷ []
error_line Cancelled = codes "cancelled" ++ 10 ∷ []
error_line OutOfMemory = codes "out of memory" ++ 10 ∷ []

-- `err` has gained a line, or its first part where its count of faults rose
abbrev pub ErrGains : Option (List ℕ) → Option (List ℕ) → ℕ → ℕ → List ℕ → Type 0
ErrGains before now faults faults' line =
    (Gained before now line × (faults' ≡ faults)) ⊎ (GainedPart before now line × Counts true faults faults')

-- the status of an ending, with its line on `err`, or nothing there after an answer
abbrev pub Tells : Ending → Status → Option (List ℕ) → Option (List ℕ) → ℕ → ℕ → Type 0
Tells (Ok done) ends before now faults faults' = (ends ≡ status.Done) × (now ≡ before) × (faults' ≡ faults)
Tells (Err failure) ends before now faults faults' =
    (ends ≡ failure_status failure) × ErrGains before now faults faults' (error_line failure)

-- a failure is told; or want of memory, where there was none to write what is wrong with words or tables
abbrev pub Reports : Failure → Status → Option (List ℕ) → Option (List ℕ) → ℕ → ℕ → Type 0
Reports (Words fault) ends before now faults faults' =
    Tells (Err (Words fault)) ends before now faults faults' ⊎ Tells (Err OutOfMemory) ends before now faults faults'
Reports (Refused refusal) ends before now faults faults' =
    Tells (Err (Refused refusal)) ends before now faults faults' ⊎ Tells (Err OutOfMemory) ends before now faults faults'
Reports failure ends before now faults faults' = Tells (Err failure) ends before now faults faults'

-- `out` has gained what answers a request for a system
abbrev pub AnswerGained : Request → List Seen → SystemParts → Option (List ℕ) → Option (List ℕ) → Type 0
AnswerGained request seen system before now =
    (text : List ℕ) × IsAnswer request seen system text × Gained before now text

-- a text was written whole, or its first part where the write failed
abbrev pub IsWritten : List ℕ → Ending → Option (List ℕ) → Option (List ℕ) → Type 0
IsWritten text (Ok done) before now = Gained before now text
IsWritten text (Err WriteFault) before now = GainedPart before now text
IsWritten text (Err failure) before now = ⊥

-- how a request ends for a system, and what `out` has gained: its answer, a first part of that where the write
-- failed, or nothing; a recorder refuses in a trace alone
abbrev pub Answers : Request → List Seen → SystemParts → Ending → Option (List ℕ) → Option (List ℕ) → Type 0
Answers request seen system (Ok done) before now = AnswerGained request seen system before now
Answers request seen system (Err WriteFault) before now =
    (text : List ℕ) × IsAnswer request seen system text × GainedPart before now text
Answers request seen system (Err OutOfMemory) before now = now ≡ before
Answers request seen system (Err RecorderRefused) before now =
    (terms : TraceTerms) × (trace_of request ≡ Some terms) × (now ≡ before)
Answers request seen system (Err (Words fault)) before now = ⊥
Answers request seen system (Err (Refused refusal)) before now = ⊥
Answers request seen system (Err ReadFault) before now = ⊥
Answers request seen system (Err Cancelled) before now = ⊥

-- how a request that is no console's ends, by what its system came to: where there is one, by what it answers for that system; where the
-- tables are refused, for that reason; where a read failed, so
abbrev pub Ends : Request → List Seen → Result SystemParts FolderError → Ending → Option (List ℕ) → Option (List ℕ) → Type 0
Ends request seen came (Err OutOfMemory) before now = now ≡ before
Ends request seen came (Err (Words fault)) before now = ⊥
Ends request seen came (Err (Refused refusal)) before now = (came ≡ Err (folder.Refused refusal)) × (now ≡ before)
Ends request seen came (Err ReadFault) before now = (came ≡ Err folder.ReadFault) × (now ≡ before)
Ends request seen came ending before now =
    (system : SystemParts) × (came ≡ Ok system) × Answers request seen system ending before now

-- whether a read failed, and whether the write of the answer did
abbrev pub is_shelf_failure : Ending → Bool
is_shelf_failure (Err ReadFault) = true
is_shelf_failure ending = false

abbrev pub is_sink_failure : Ending → Bool
is_sink_failure (Err WriteFault) = true
is_sink_failure ending = false

-- whether a status says so
abbrev pub says_read_fault : Status → Bool
says_read_fault status.ReadFault = true
says_read_fault ends = false

abbrev pub says_write_fault : Status → Bool
says_write_fault status.WriteFault = true
says_write_fault ends = false

-- whether `out` may have gained a byte
abbrev pub may_have_written : Ending → Bool
may_have_written (Ok done) = true
may_have_written ending = is_sink_failure ending

abbrev pub says_written : Status → Bool
says_written status.Done = true
says_written ends = says_write_fault ends

-- a line has run: the tables of its folder were read up to the first that ends the reading, or none where its system
-- is made; the run ended as that system and the command have it, and that was told
pub record HasRun (contents : Option Tables) (line : LineParts) (seen : List Seen) (ends : Status) (reads reads' : List Reading) (counts counts' : ShelfCounts) (held held' : Option (List ℕ)) (said said' : Option (List ℕ)) (faults faults' : ℕ) : Type 0 where
  pub tables : Result TableBytes FolderError
  pub ending : Ending
  pub read : HasRead contents line.place no_tables (tables_read (made_number line)) tables reads reads' counts counts'
  pub ended : Ends (request_of line) seen (system_outcome (made_number line) tables) ending held held'
  pub told : Tells ending ends said said' faults faults'

-- words have given this line, or their first fault, or memory wasn't found
abbrev pub IsAsked : Result LineParts WordFault → Result LineParts Failure → Type 0
IsAsked asked (Ok line) = asked ≡ Ok line
IsAsked asked (Err (Words fault)) = asked ≡ Err fault
IsAsked asked (Err OutOfMemory) = Unit {0}
IsAsked asked (Err _) = ⊥

-- the text that answers a request, with the recorders that are left; where it wasn't made, a recorder refused, or
-- memory wasn't found
abbrev pub HasText : {R : Type 0} → (R → Seen) → (R → ℕ) → Request → SystemParts → Result (List ℕ) TextError → List R → List R → Type 0
HasText see count request system (Ok text) before now =
    IsAnswer request (map see before) system text × Leaves see count request status.Done before now
HasText see count request system (Err text_error.Refused) before now =
    Leaves see count request status.RecorderRefused before now
HasText see count request system (Err text_error.OutOfMemory) before now =
    Leaves see count request status.OutOfMemory before now
