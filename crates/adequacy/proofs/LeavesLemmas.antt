-- What each ending leaves of the recorders, and that only a trace looks at them.
use Rattle.std.proofs.Common.{◌≡◌, ◌⊎◌, ℕ, true, List, [], Option, None, Some, Result, Ok, Err, refl, sym, subst, inl, inr}
use Rattle.ra_base.specs.Outside.{Tables}
use Rattle.ra_base.specs.Reading.{Reading}
use Rattle.ra_base.specs.declared.shelf_counts.ShelfCounts.{ShelfCounts}
use Rattle.ra_base.specs.declared.status.Status.{Status}
use Rattle.ra_base.specs.declared.status.Status.TheVariants as status
use Rattle.sample_totals.specs.Recorders.{Seen}
use Rattle.system_model.specs.System.{SystemParts}
use Rattle.adequacy.specs.CommandWords.{is_campaign, is_console}
use Rattle.adequacy.specs.Commands.{IsAnswer}
use Rattle.adequacy.specs.Endings.{Ending, Answers, Ends, HasRun, HasText, IsAsked, IsWritten, Reports, Tells, ending_status, failure_of, failure_status}
use Rattle.adequacy.specs.LineParts.{LineParts}
use Rattle.adequacy.specs.Requests.{request_by, request_of}
use Rattle.adequacy.specs.Sources.{made_number, system_outcome}
use Rattle.adequacy.specs.Traces.{IsTraced, Leaves, LeavesBy, trace_of}
use Rattle.adequacy.specs.declared.endings.Failure.{Failure}
use Rattle.adequacy.specs.declared.endings.Failure.TheVariants.{Words, Refused, ReadFault, WriteFault, RecorderRefused, Cancelled, OutOfMemory}
use Rattle.adequacy.specs.declared.tables.FolderError.{FolderError}
use Rattle.adequacy.specs.declared.tables.FolderError.TheVariants as folder
use Rattle.adequacy.specs.declared.traces.TextError.{TextError}
use Rattle.adequacy.specs.declared.traces.TextError.TheVariants as text_error
use Rattle.adequacy.specs.declared.words.command.Command.{Command}
use Rattle.adequacy.specs.declared.words.command.Command.TheVariants as command
use Rattle.adequacy.specs.declared.words.fault.WordFault.{WordFault}
use Rattle.adequacy.specs.declared.words.request.TraceTerms.{TraceTerms}
use Rattle.adequacy.specs.declared.words.request.Request.{Request}
use Rattle.adequacy.specs.declared.words.request.Request.TheVariants.{Check, Table, Index, Credit, Trace, Study, Trial, Console}

-- recorders that nobody touched, where memory wasn't found,
pub left_alone : {R : Type 0} (see : R → Seen) (count : R → ℕ) (asked : Option TraceTerms) (before now : List R)
    → now ≡ before → LeavesBy see count asked status.OutOfMemory before now
left_alone see count (Some terms) before now is = inl is
left_alone see count None before now is = is

-- and where there is no system
pub left_unread : {R : Type 0} (see : R → Seen) (count : R → ℕ) (asked : Option TraceTerms) (error : FolderError) (recorders : List R)
    → LeavesBy see count asked (failure_status (failure_of error)) recorders recorders
left_unread see count (Some terms) (folder.Refused refusal) recorders = refl
left_unread see count (Some terms) folder.ReadFault recorders = refl
left_unread see count (Some terms) folder.OutOfMemory recorders = inl refl
left_unread see count None (folder.Refused refusal) recorders = refl
left_unread see count None folder.ReadFault recorders = refl
left_unread see count None folder.OutOfMemory recorders = refl

-- a text that was written, whole or not, leaves what making it left
pub left_written : {R : Type 0} (see : R → Seen) (count : R → ℕ) (asked : Option TraceTerms) (text : List ℕ) (ending : Ending) (held held' : Option (List ℕ)) (before now : List R)
    → LeavesBy see count asked status.Done before now → IsWritten text ending held held'
    → LeavesBy see count asked (ending_status ending) before now
left_written see count (Some terms) text (Ok done) held held' before now left written = left
left_written see count (Some terms) text (Err WriteFault) held held' before now left written = left
left_written see count None text (Ok done) held held' before now left written = left
left_written see count None text (Err WriteFault) held held' before now left written = left
left_written see count asked text (Err (Words fault)) held held' before now left written = absurd written
left_written see count asked text (Err (Refused refusal)) held held' before now left written = absurd written
left_written see count asked text (Err ReadFault) held held' before now left written = absurd written
left_written see count asked text (Err RecorderRefused) held held' before now left written = absurd written
left_written see count asked text (Err Cancelled) held held' before now left written = absurd written
left_written see count asked text (Err OutOfMemory) held held' before now left written = absurd written

-- a recorder refuses in a trace alone
pub refused_trace : {R : Type 0} (see : R → Seen) (count : R → ℕ) (asked : Option TraceTerms) (before now : List R)
    → LeavesBy see count asked status.RecorderRefused before now → (terms : TraceTerms) × (asked ≡ Some terms)
refused_trace see count (Some terms) before now left = (terms, refl)
refused_trace see count None before now left = absurd left

left_words : {R : Type 0} (see : R → Seen) (count : R → ℕ) (asked : Option TraceTerms) (before now : List R) → LeavesBy see count asked status.Words before now → now ≡ before
left_words see count (Some terms) before now is = is
left_words see count None before now is = is

left_table : {R : Type 0} (see : R → Seen) (count : R → ℕ) (asked : Option TraceTerms) (before now : List R) → LeavesBy see count asked status.Table before now → now ≡ before
left_table see count (Some terms) before now is = is
left_table see count None before now is = is

-- what was told leaves what the failure left; words and tables without memory for their line have left all alone
pub left_told : {R : Type 0} (see : R → Seen) (count : R → ℕ) (asked : Option TraceTerms) (failure : Failure) (ends : Status) (before now : List R) (said said' : Option (List ℕ)) (faults faults' : ℕ)
    → LeavesBy see count asked (failure_status failure) before now → Reports failure ends said said' faults faults'
    → LeavesBy see count asked ends before now
left_told see count asked (Words fault) ends before now said said' f f' left (inl told) = subst (λ (s : Status). LeavesBy see count asked s before now) (sym told.0) left
left_told see count asked (Words fault) ends before now said said' f f' left (inr told) =
    subst (λ (s : Status). LeavesBy see count asked s before now) (sym told.0)
    (left_alone see count asked before now (left_words see count asked before now left))
left_told see count asked (Refused refusal) ends before now said said' f f' left (inl told) = subst (λ (s : Status). LeavesBy see count asked s before now) (sym told.0) left
left_told see count asked (Refused refusal) ends before now said said' f f' left (inr told) =
    subst (λ (s : Status). LeavesBy see count asked s before now) (sym told.0)
    (left_alone see count asked before now (left_table see count asked before now left))
left_told see count asked ReadFault ends before now said said' f f' left told = subst (λ (s : Status). LeavesBy see count asked s before now) (sym told.0) left
left_told see count asked WriteFault ends before now said said' f f' left told = subst (λ (s : Status). LeavesBy see count asked s before now) (sym told.0) left
left_told see count asked RecorderRefused ends before now said said' f f' left told = subst (λ (s : Status). LeavesBy see count asked s before now) (sym told.0) left
left_told see count asked Cancelled ends before now said said' f f' left told = subst (λ (s : Status). LeavesBy see count asked s before now) (sym told.0) left
left_told see count asked OutOfMemory ends before now said said' f f' left told = subst (λ (s : Status). LeavesBy see count asked s before now) (sym told.0) left

-- words whose line is asked for failed for want of memory alone, and no recorder was touched
pub failed_left : {R : Type 0} (see : R → Seen) (count : R → ℕ) (asked : Result LineParts WordFault) (line : LineParts) (failure : Failure) (ends : Status) (recorders : List R) (said said' : Option (List ℕ)) (faults faults' : ℕ)
    → IsAsked asked (Err failure) → asked ≡ Ok line → Reports failure ends said said' faults faults'
    → Leaves see count (request_of line) ends recorders recorders
failed_left see count asked line (Words fault) ends recorders said said' f f' is asks told = absurd (cc)
failed_left see count asked line (Refused refusal) ends recorders said said' f f' is asks told = absurd is
failed_left see count asked line ReadFault ends recorders said said' f f' is asks told = absurd is
failed_left see count asked line WriteFault ends recorders said said' f f' is asks told = absurd is
failed_left see count asked line RecorderRefused ends recorders said said' f f' is asks told = absurd is
failed_left see count asked line Cancelled ends recorders said said' f f' is asks told = absurd is
failed_left see count asked line OutOfMemory ends recorders said said' f f' is asks told =
    subst (λ (s : Status). Leaves see count (request_of line) s recorders recorders) (sym told.0)
    (left_alone see count (trace_of (request_of line)) recorders recorders refl)

-- an answer, where no recorder refused
pub unless_refused : {R : Type 0} {A : Type 0} (see : R → Seen) (count : R → ℕ) (request : Request) (ends : Status) (before now : List R)
    → A ⊎ ((ends ≡ status.OutOfMemory) ⊎ (ends ≡ status.RecorderRefused)) → Leaves see count request ends before now
    → (Leaves see count request status.RecorderRefused before now → ⊥)
    → A ⊎ (ends ≡ status.OutOfMemory)
unless_refused see count request ends before now (inl answered) left none = inl answered
unless_refused see count request ends before now (inr (inl memory)) left none = inr memory
unless_refused see count request ends before now (inr (inr refused)) left none =
    absurd (none (subst (λ (s : Status). Leaves see count request s before now) refused left))

-- the text of a trace is what answers it
pub text_of_trace : {R : Type 0} (see : R → Seen) (count : R → ℕ) (system : SystemParts) (terms : TraceTerms) (made : Result (List ℕ) TextError) (before now : List R)
    → IsTraced see count system terms made before now → HasText see count (Trace terms) system made before now
text_of_trace see count system terms (Ok text) before now traced = traced
text_of_trace see count system terms (Err text_error.Refused) before now traced = traced
text_of_trace see count system terms (Err text_error.OutOfMemory) before now traced = inr traced

-- a request that isn't a trace
pub other_request : (request : Request) → ((terms : TraceTerms) → request ≡ Trace terms → ⊥) → trace_of request ≡ None
other_request Check other = refl
other_request Table other = refl
other_request Index other = refl
other_request (Credit terms) other = refl
other_request (Trace terms) other = absurd (other terms refl)
other_request (Study terms) other = refl
other_request (Trial number terms) other = refl
other_request (Console terms) other = refl

-- it touches no recorder,
pub other_left : {R : Type 0} (see : R → Seen) (count : R → ℕ) (asked : Option TraceTerms) (recorders : List R)
    → asked ≡ None → LeavesBy see count asked status.Done recorders recorders
other_left see count (Some terms) recorders other = absurd (cc)
other_left see count None recorders other = refl

-- and what answers it is the same whatever they are
pub other_answer : (request : Request) (seen : List Seen) (system : SystemParts) (text : List ℕ)
    → trace_of request ≡ None → IsAnswer request [] system text → IsAnswer request seen system text
other_answer Check seen system text other is = is
other_answer Table seen system text other is = is
other_answer Index seen system text other is = is
other_answer (Credit terms) seen system text other is = is
other_answer (Trace terms) seen system text other is = absurd (cc)
other_answer (Study terms) seen system text other is = is
other_answer (Trial number terms) seen system text other is = is
other_answer (Console terms) seen system text other is = is

other_answers : (request : Request) (seen : List Seen) (system : SystemParts) (ending : Ending) (held held' : Option (List ℕ))
    → trace_of request ≡ None → Answers request [] system ending held held' → Answers request seen system ending held held'
other_answers request seen system (Ok done) held held' other (text, is, gained) = (text, other_answer request seen system text other is, gained)
other_answers request seen system (Err WriteFault) held held' other (text, is, part) = (text, other_answer request seen system text other is, part)
other_answers request seen system (Err RecorderRefused) held held' other answers = answers
other_answers request seen system (Err OutOfMemory) held held' other answers = answers
other_answers request seen system (Err (Words fault)) held held' other answers = absurd answers
other_answers request seen system (Err (Refused refusal)) held held' other answers = absurd answers
other_answers request seen system (Err ReadFault) held held' other answers = absurd answers
other_answers request seen system (Err Cancelled) held held' other answers = absurd answers

other_ends : (request : Request) (seen : List Seen) (came : Result SystemParts FolderError) (ending : Ending) (held held' : Option (List ℕ))
    → trace_of request ≡ None → Ends request [] came ending held held' → Ends request seen came ending held held'
other_ends request seen came (Ok done) held held' other (system, is, answers) = (system, is, other_answers request seen system (Ok done) held held' other answers)
other_ends request seen came (Err WriteFault) held held' other (system, is, answers) = (system, is, other_answers request seen system (Err WriteFault) held held' other answers)
other_ends request seen came (Err RecorderRefused) held held' other (system, is, answers) = (system, is, answers)
other_ends request seen came (Err Cancelled) held held' other (system, is, answers) = absurd answers
other_ends request seen came (Err OutOfMemory) held held' other ended = ended
other_ends request seen came (Err (Words fault)) held held' other ended = absurd ended
other_ends request seen came (Err (Refused refusal)) held held' other ended = ended
other_ends request seen came (Err ReadFault) held held' other ended = ended

-- a line whose workers are waited for asks for no trace
no_trace_by : (asks : Command) (line : LineParts) → is_campaign asks ≡ true → trace_of (request_by asks line) ≡ None
no_trace_by command.Check line waits = absurd (cc)
no_trace_by command.Table line waits = absurd (cc)
no_trace_by command.Index line waits = absurd (cc)
no_trace_by command.Credit line waits = absurd (cc)
no_trace_by command.Trace line waits = absurd (cc)
no_trace_by command.Study line waits = refl
no_trace_by command.Trial line waits = refl
no_trace_by command.Console line waits = refl

-- so its run is one with any recorders,
pub waiting_run : (contents : Option Tables) (line : LineParts) (seen : List Seen) (ends : Status) (reads reads' : List Reading) (counts counts' : ShelfCounts) (held held' said said' : Option (List ℕ)) (faults faults' : ℕ)
    → is_campaign line.command ≡ true
    → HasRun contents line [] ends reads reads' counts counts' held held' said said' faults faults'
    → HasRun contents line seen ends reads reads' counts counts' held held' said said' faults faults'
waiting_run contents line seen ends reads reads' counts counts' held held' said said' f f' waits run = record {
  tables = run.tables;
  ending = run.ending;
  read = run.read;
  ended = other_ends (request_of line) seen (system_outcome (made_number line) run.tables) run.ending held held' (no_trace_by line.command line waits) run.ended;
  told = run.told;
}

other_ended : {R : Type 0} (see : R → Seen) (count : R → ℕ) (request : Request) (came : Result SystemParts FolderError) (ending : Ending) (held held' : Option (List ℕ)) (recorders : List R)
    → trace_of request ≡ None → Ends request [] came ending held held'
    → LeavesBy see count None (ending_status ending) recorders recorders
other_ended see count request came (Ok done) held held' recorders other ended = refl
other_ended see count request came (Err WriteFault) held held' recorders other ended = refl
other_ended see count request came (Err RecorderRefused) held held' recorders other (system, is, (terms, asks, same)) = absurd (cc)
other_ended see count request came (Err Cancelled) held held' recorders other ended = refl
other_ended see count request came (Err OutOfMemory) held held' recorders other ended = refl
other_ended see count request came (Err (Words fault)) held held' recorders other ended = absurd ended
other_ended see count request came (Err (Refused refusal)) held held' recorders other ended = refl
other_ended see count request came (Err ReadFault) held held' recorders other ended = refl

told_status : (ending : Ending) (ends : Status) (said said' : Option (List ℕ)) (faults faults' : ℕ) → Tells ending ends said said' faults faults' → ends ≡ ending_status ending
told_status (Ok done) ends said said' f f' told = told.0
told_status (Err failure) ends said said' f f' told = told.0

-- and leaves them alone
pub waiting_left : {R : Type 0} (see : R → Seen) (count : R → ℕ) (contents : Option Tables) (line : LineParts) (ends : Status) (reads reads' : List Reading) (counts counts' : ShelfCounts) (held held' said said' : Option (List ℕ)) (faults faults' : ℕ) (recorders : List R)
    → is_campaign line.command ≡ true
    → HasRun contents line [] ends reads reads' counts counts' held held' said said' faults faults'
    → Leaves see count (request_of line) ends recorders recorders
waiting_left see count contents line ends reads reads' counts counts' held held' said said' f f' recorders waits run =
    let other = no_trace_by line.command line waits in
    subst (λ (asked : Option TraceTerms). LeavesBy see count asked ends recorders recorders) (sym other)
    (subst (λ (s : Status). LeavesBy see count None s recorders recorders) (sym (told_status run.ending ends said said' f f' run.told))
    (other_ended see count (request_of line) (system_outcome (made_number line) run.tables) run.ending held held' recorders other run.ended))

-- a console leaves them alone too
console_trace : (asks : Command) (line : LineParts) → is_console asks ≡ true → trace_of (request_by asks line) ≡ None
console_trace command.Check line is = absurd (cc)
console_trace command.Table line is = absurd (cc)
console_trace command.Index line is = absurd (cc)
console_trace command.Credit line is = absurd (cc)
console_trace command.Trace line is = absurd (cc)
console_trace command.Study line is = absurd (cc)
console_trace command.Trial line is = absurd (cc)
console_trace command.Console line is = refl

left_quiet : {R : Type 0} (see : R → Seen) (count : R → ℕ) (ends : Status) (recorders : List R)
    → (ends ≡ status.RecorderRefused → ⊥) → LeavesBy see count None ends recorders recorders
left_quiet see count status.Done recorders none = refl
left_quiet see count status.Words recorders none = refl
left_quiet see count status.Table recorders none = refl
left_quiet see count status.ReadFault recorders none = refl
left_quiet see count status.WriteFault recorders none = refl
left_quiet see count status.OutOfMemory recorders none = refl
left_quiet see count status.Cancelled recorders none = refl
left_quiet see count status.RecorderRefused recorders none = none refl

pub console_left : {R : Type 0} (see : R → Seen) (count : R → ℕ) (line : LineParts) (ends : Status) (recorders : List R)
    → is_console line.command ≡ true → (ends ≡ status.RecorderRefused → ⊥)
    → Leaves see count (request_of line) ends recorders recorders
console_left see count line ends recorders is none =
    subst (λ (asked : Option TraceTerms). LeavesBy see count asked ends recorders recorders) (sym (console_trace line.command line is))
    (left_quiet see count ends recorders none)
