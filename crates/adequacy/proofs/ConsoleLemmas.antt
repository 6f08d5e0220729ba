-- What a console's end says of its counts and of its answer.
use Rattle.std.proofs.Common.{◌≡◌, ◌⊎◌, ℕ, ◌≤◌, Bool, true, false, List, Option, None, Some, Result, Ok, Err, refl, sym, ap, subst, inl, inr, ◌∙◌, arith}
use Rattle.ra_base.specs.Causes.{Counts, Rose}
use Rattle.ra_base.specs.declared.status.Status.{Status}
use Rattle.ra_base.specs.declared.status.Status.TheVariants as status
use Rattle.campaign.specs.declared.book.Book.{Book}
use Rattle.campaign_console.specs.declared.consoles.ConsoleEnd.{ConsoleEnd}
use Rattle.campaign_console.specs.declared.consoles.ConsoleEnd.TheVariants as end
use Rattle.campaign_console.specs.Ends.{EndsAs}
use Rattle.campaign_console.specs.LineEnds.{Outside, is_read_fault, is_write_fault}
use Rattle.sample_run.specs.SampleWorks.{WorkTerms}
use Rattle.sample_totals.specs.Recorders.{Seen}
use Rattle.sample_totals.specs.Totals.{Sheet}
use Rattle.system_model.specs.System.{SystemParts}
use Rattle.turn_book.specs.declared.view.View.{View}
use Rattle.adequacy.specs.CommandWords.{is_console}
use Rattle.adequacy.specs.Consoles.{console_ending, console_of, ConsoleEnds, HasConsoled}
use Rattle.adequacy.specs.Endings.{Ending, HasRun, Tells, ending_status, is_sink_failure, says_read_fault, says_write_fault}
use Rattle.adequacy.specs.LineParts.{LineParts}
use Rattle.adequacy.specs.Requests.{console_terms, request_by, request_of}
use Rattle.adequacy.specs.Runs.{AnsweredBy, EndsBy, FaultCounts, IsUnasked, ReadFaults, RunEnds}
use Rattle.adequacy.specs.declared.endings.Failure.{Failure}
use Rattle.adequacy.specs.declared.endings.Failure.TheVariants.{Words, Refused, ReadFault, WriteFault, RecorderRefused, Cancelled, OutOfMemory}
use Rattle.adequacy.specs.declared.tables.FolderError.{FolderError}
use Rattle.adequacy.specs.declared.tables.FolderError.TheVariants as folder
use Rattle.adequacy.specs.declared.tables.Refusal.{Refusal}
use Rattle.adequacy.specs.declared.words.command.Command.{Command}
use Rattle.adequacy.specs.declared.words.command.Command.TheVariants as command
use Rattle.adequacy.specs.declared.words.request.ConsoleTerms.{ConsoleTerms}
use Rattle.adequacy.specs.declared.words.request.Request.{Request}

-- without a system a console's run ends as the folder did
pub console_without : (terms : ConsoleTerms) (error : FolderError) (expected : Result SystemParts FolderError) (ending : Ending) (before now : Outside)
    → ConsoleEnds terms (Err error) ending before now
    → ((ending ≡ Err ReadFault) × (error ≡ folder.ReadFault)) ⊎ (((refusal : Refusal) × (error ≡ folder.Refused refusal)) ⊎ ConsoleEnds terms expected ending before now)
console_without terms error expected (Ok done) before now (system, is, stands) = absurd (cc)
console_without terms error expected (Err (Words fault)) before now ended = absurd ended
console_without terms error expected (Err (Refused refusal)) before now (is, same) = inr (inl (refusal, cc))
console_without terms error expected (Err ReadFault) before now (inl (is, same)) = inl (refl, cc)
console_without terms error expected (Err ReadFault) before now (inr (system, is, stands)) = absurd (cc)
console_without terms error expected (Err WriteFault) before now (system, is, stands) = absurd (cc)
console_without terms error expected (Err RecorderRefused) before now ended = absurd ended
console_without terms error expected (Err Cancelled) before now (system, is, stands) = absurd (cc)
console_without terms error expected (Err OutOfMemory) before now (inl same) = inr (inr (inl same))
console_without terms error expected (Err OutOfMemory) before now (inr (system, is, stands)) = absurd (cc)

-- a count that rose or stood still hasn't fallen
not_fallen : (rose : Bool) (before now : ℕ) → Counts rose before now → before ≤ now
not_fallen true before now counts = counts.0
not_fallen false before now counts = omega (arith, counts)

-- what an end says of the console's count
ends_reads : (e : ConsoleEnd) (work : WorkTerms) (before now : Outside) (pass : View (Book WorkTerms Sheet))
    → EndsAs e work before now pass → FaultCounts (says_read_fault (ending_status (console_ending e))) (ending_status (console_ending e)) before.reads now.reads
ends_reads end.Finished work before now pass stands = stands.written.reads ∙ stands.read.answers.reads
ends_reads end.Cancelled work before now pass stands = stands.written.reads ∙ stands.read.answers.reads
ends_reads end.ReadFault work before now pass stands = stands.answers.reads
ends_reads end.WriteFault work before now pass (inl stands) = stands.answers.reads
ends_reads end.WriteFault work before now pass (inr stands) = stands.written.reads ∙ stands.read.answers.reads
ends_reads end.OutOfMemory work before now pass (lines, stands) =
    not_fallen (is_read_fault (Some lines)) before.reads now.reads stands.answers.reads

-- and of the output's
ends_writes : (e : ConsoleEnd) (work : WorkTerms) (before now : Outside) (pass : View (Book WorkTerms Sheet))
    → EndsAs e work before now pass → FaultCounts (is_sink_failure (console_ending e)) (ending_status (console_ending e)) before.writes now.writes
ends_writes end.Finished work before now pass stands = stands.written.writes ∙ stands.read.answers.writes
ends_writes end.Cancelled work before now pass stands = stands.written.writes ∙ stands.read.answers.writes
ends_writes end.ReadFault work before now pass stands = stands.answers.writes
ends_writes end.WriteFault work before now pass (inl stands) = stands.answers.writes
ends_writes end.WriteFault work before now pass (inr stands) =
    rw stands.read.answers.writes at stands.written.writes
ends_writes end.OutOfMemory work before now pass (lines, stands) =
    not_fallen (is_write_fault (Some lines)) before.writes now.writes stands.answers.writes

pub consoled_reads : (system : SystemParts) (terms : ConsoleTerms) (ending : Ending) (before now : Outside) → HasConsoled system terms ending before now
    → FaultCounts (says_read_fault (ending_status ending)) (ending_status ending) before.reads now.reads
consoled_reads system terms ending before now done =
    subst (λ (e : Ending). FaultCounts (says_read_fault (ending_status e)) (ending_status e) before.reads now.reads) (sym done.ended)
    (ends_reads done.end _ before now done.pass done.stands)

pub consoled_writes : (system : SystemParts) (terms : ConsoleTerms) (ending : Ending) (before now : Outside) → HasConsoled system terms ending before now
    → FaultCounts (is_sink_failure ending) (ending_status ending) before.writes now.writes
consoled_writes system terms ending before now done =
    subst (λ (e : Ending). FaultCounts (is_sink_failure e) (ending_status e) before.writes now.writes) (sym done.ended)
    (ends_writes done.end _ before now done.pass done.stands)

-- a console over a system, where no fault was counted
pub console_spelled : (terms : ConsoleTerms) (came : Result SystemParts FolderError) (system : SystemParts) (ending : Ending) (ends : Status) (before now : Outside) (said said' : Option (List ℕ)) (f f' : ℕ)
    → came ≡ Ok system → (Rose before.reads now.reads → ⊥) → (ends ≡ status.WriteFault → ⊥)
    → ConsoleEnds terms came ending before now → Tells ending ends said said' f f'
    → (((ends ≡ status.Done) × HasConsoled system terms (Ok tt) before now) ⊎ ((ends ≡ status.Cancelled) × HasConsoled system terms (Err Cancelled) before now)) ⊎ (ends ≡ status.OutOfMemory)
console_spelled terms came system (Ok done) ends before now said said' f f' spells no_read no_write (other, is, stands) told =
    let same : other ≡ system = cc in
    inl (inl (told.0, subst (λ (s : SystemParts). HasConsoled s terms (Ok done) before now) same stands))
console_spelled terms came system (Err (Words fault)) ends before now said said' f f' spells no_read no_write ended told = absurd ended
console_spelled terms came system (Err (Refused refusal)) ends before now said said' f f' spells no_read no_write (is, same) told = absurd (cc)
console_spelled terms came system (Err ReadFault) ends before now said said' f f' spells no_read no_write (inl (is, same)) told = absurd (cc)
console_spelled terms came system (Err ReadFault) ends before now said said' f f' spells no_read no_write (inr (other, is, stands)) told =
    absurd (no_read (consoled_reads other terms (Err ReadFault) before now stands).1)
console_spelled terms came system (Err WriteFault) ends before now said said' f f' spells no_read no_write ended told = absurd (no_write told.0)
console_spelled terms came system (Err RecorderRefused) ends before now said said' f f' spells no_read no_write ended told = absurd ended
console_spelled terms came system (Err Cancelled) ends before now said said' f f' spells no_read no_write (other, is, stands) told =
    let same : other ≡ system = cc in
    inl (inr (told.0, subst (λ (s : SystemParts). HasConsoled s terms (Err Cancelled) before now) same stands))
console_spelled terms came system (Err OutOfMemory) ends before now said said' f f' spells no_read no_write ended told = inr told.0

-- a console over tables that are refused
pub console_refused : (terms : ConsoleTerms) (came : Result SystemParts FolderError) (refusal : Refusal) (ending : Ending) (ends : Status) (before now : Outside) (said said' : Option (List ℕ)) (f f' : ℕ)
    → came ≡ Err (folder.Refused refusal)
    → ConsoleEnds terms came ending before now → Tells ending ends said said' f f'
    → Tells (Err (Refused refusal)) ends said said' f f' ⊎ (ends ≡ status.OutOfMemory)
console_refused terms came refusal (Ok done) ends before now said said' f f' refused (system, is, stands) told = absurd (cc)
console_refused terms came refusal (Err (Words fault)) ends before now said said' f f' refused ended told = absurd ended
console_refused terms came refusal (Err (Refused other)) ends before now said said' f f' refused (is, same) told =
    let one : other ≡ refusal = cc in
    inl (subst (λ (r : Refusal). Tells (Err (Refused r)) ends said said' f f') one told)
console_refused terms came refusal (Err ReadFault) ends before now said said' f f' refused (inl (is, same)) told = absurd (cc)
console_refused terms came refusal (Err ReadFault) ends before now said said' f f' refused (inr (system, is, stands)) told = absurd (cc)
console_refused terms came refusal (Err WriteFault) ends before now said said' f f' refused (system, is, stands) told = absurd (cc)
console_refused terms came refusal (Err RecorderRefused) ends before now said said' f f' refused ended told = absurd ended
console_refused terms came refusal (Err Cancelled) ends before now said said' f f' refused (system, is, stands) told = absurd (cc)
console_refused terms came refusal (Err OutOfMemory) ends before now said said' f f' refused ended told = inr told.0

-- what a line asks for, by its command
console_asked : (asks : Command) (line : LineParts) → is_console asks ≡ true → console_of (request_by asks line) ≡ Some (console_terms line)
console_asked command.Check line is = absurd (cc)
console_asked command.Table line is = absurd (cc)
console_asked command.Index line is = absurd (cc)
console_asked command.Credit line is = absurd (cc)
console_asked command.Trace line is = absurd (cc)
console_asked command.Study line is = absurd (cc)
console_asked command.Trial line is = absurd (cc)
console_asked command.Console line is = refl

pub no_console : (asks : Command) (line : LineParts) → is_console asks ≡ false → console_of (request_by asks line) ≡ None
no_console command.Check line is = refl
no_console command.Table line is = refl
no_console command.Index line is = refl
no_console command.Credit line is = refl
no_console command.Trace line is = refl
no_console command.Study line is = refl
no_console command.Trial line is = refl
no_console command.Console line is = absurd (cc)

pub console_ran : (line : LineParts) (seen : List Seen) (came : Result SystemParts FolderError) (ending : Ending) (before now : Outside)
    → is_console line.command ≡ true → ConsoleEnds (console_terms line) came ending before now → RunEnds (request_of line) seen came ending before now
console_ran line seen came ending before now is ended =
    subst (λ (asked : Option ConsoleTerms). EndsBy asked (request_of line) seen came ending before now) (sym (console_asked line.command line is)) ended
