-- What the top call says of a line's run where the shelf tells its contents.
use Rattle.std.proofs.Common.{◌≡◌, ◌⊎◌, ℕ, true, List, Option, None, Some, Result, Ok, Err, refl, sym, ap, subst, inl, inr}
use Rattle.ra_base.specs.Causes.{Counts, Rose}
use Rattle.ra_base.specs.Outside.{Tables}
use Rattle.ra_base.specs.Reading.{Reading}
use Rattle.ra_base.specs.declared.shelf_counts.ShelfCounts.{ShelfCounts}
use Rattle.ra_base.specs.declared.status.Status.{Status}
use Rattle.ra_base.specs.declared.status.Status.TheVariants as status
use Rattle.ra_base.specs.declared.table.TableBytes.{TableBytes}
use Rattle.campaign_console.specs.LineEnds.{Outside}
use Rattle.sample_totals.specs.Recorders.{Seen}
use Rattle.system_model.specs.System.{SystemParts}
use Rattle.adequacy.specs.declared.endings.Failure.{Failure}
use Rattle.adequacy.specs.declared.endings.Failure.TheVariants.{Words, Refused, ReadFault, WriteFault, RecorderRefused, Cancelled, OutOfMemory}
use Rattle.adequacy.specs.declared.tables.FolderError.{FolderError}
use Rattle.adequacy.specs.declared.tables.FolderError.TheVariants as folder
use Rattle.adequacy.specs.declared.tables.Refusal.{Refusal}
use Rattle.adequacy.specs.Consoles.{console_of, ConsoleEnds}
use Rattle.adequacy.specs.LineParts.{LineParts}
use Rattle.adequacy.specs.Requests.{request_of}
use Rattle.adequacy.specs.declared.words.fault.WordFault.{WordFault}
use Rattle.adequacy.specs.declared.words.request.ConsoleTerms.{ConsoleTerms}
use Rattle.adequacy.specs.declared.words.request.Request.{Request}
use Rattle.adequacy.specs.Folder.{Answer, AreTold, HasAnswered, counts_after, no_tables, table_order, stored_tables, stored_from, folder_outcome}
use Rattle.adequacy.specs.Runs.{Answered, AnsweredBy, EndsBy, FaultCounts, LineRan, RunsOn, ShelfFailed}
use Rattle.adequacy.specs.Sources.{made_number, system_outcome, stored_outcome, tables_read, IsRefused, RunsFor}
use Rattle.adequacy.specs.Endings.{Ending, AnswerGained, Ends, Tells, IsAsked, Reports, says_write_fault}
use Rattle.adequacy.proofs.ConsoleLemmas.{console_without, console_spelled, console_refused}
use Rattle.adequacy.proofs.StoredLemmas.{IsUnless, fault_rose, told_outcome}

-- words ask for one line
pub same_line : {asked : Result LineParts WordFault} {a b : LineParts} → asked ≡ Ok a → asked ≡ Ok b → a ≡ b
same_line is is' = cc

-- without a system a run ends as the folder did
ends_without : (request : Request) (seen : List Seen) (error : FolderError) (expected : Result SystemParts FolderError) (ending : Ending) (held held' : Option (List ℕ))
    → Ends request seen (Err error) ending held held'
    → ((ending ≡ Err ReadFault) × (error ≡ folder.ReadFault)) ⊎ (((refusal : Refusal) × (error ≡ folder.Refused refusal)) ⊎ Ends request seen expected ending held held')
ends_without request seen error expected (Ok done) held held' (system, is, gained) = absurd (cc)
ends_without request seen error expected (Err (Words fault)) held held' ended = absurd ended
ends_without request seen error expected (Err (Refused refusal)) held held' (is, same) = inr (inl (refusal, cc))
ends_without request seen error expected (Err ReadFault) held held' (is, same) = inl (refl, cc)
ends_without request seen error expected (Err WriteFault) held held' (system, is, gained) = absurd (cc)
ends_without request seen error expected (Err RecorderRefused) held held' (system, is, gained) = absurd (cc)
ends_without request seen error expected (Err Cancelled) held held' (system, is, gained) = absurd (cc)
ends_without request seen error expected (Err OutOfMemory) held held' ended = inr (inr ended)

-- the system of a line is this, or a read failed, which was counted, or memory wasn't found
abbrev CameBy : Result SystemParts FolderError → Result SystemParts FolderError → ShelfCounts → ShelfCounts → Type 0
CameBy came expected counts counts' =
    (came ≡ expected)
    ⊎ (((came ≡ Err folder.ReadFault) × Rose counts.faults counts'.faults) ⊎ (came ≡ Err folder.OutOfMemory))

-- what a folder comes to, by what its reads came to
folder_came : (tables expected : Result TableBytes FolderError) (counts counts' : ShelfCounts) → IsUnless tables expected
    → (tables ≡ Err folder.ReadFault → Rose counts.faults counts'.faults)
    → CameBy (folder_outcome tables) (folder_outcome expected) counts counts'
folder_came tables expected counts counts' (inl same) rose = inl (ap folder_outcome same)
folder_came tables expected counts counts' (inr (inl fault)) rose = inr (inl (ap folder_outcome fault, rose fault))
folder_came tables expected counts counts' (inr (inr none)) rose = inr (inr (ap folder_outcome none))

-- answers that are those of stored tables give the system that these give, or a read failed, or memory wasn't found; a
-- system that is made needs none
came_by : (number : Option ℕ) (stored : Tables) (folder : List ℕ) (answers : List Answer) (tables : Result TableBytes FolderError) (counts counts' : ShelfCounts)
    → HasAnswered no_tables (tables_read number) answers tables → AreTold (Some stored) folder (tables_read number) answers
    → counts' ≡ counts_after counts answers
    → CameBy (system_outcome number tables) (system_outcome number (stored_tables stored folder)) counts counts'
unfolding stored_tables
came_by (Some number) stored folder answers tables counts counts' answered told counted = inl refl
came_by None stored folder answers tables counts counts' answered told counted =
    folder_came tables (stored_from stored folder table_order no_tables) counts counts'
    (told_outcome stored folder table_order answers no_tables tables answered told)
    (λ fault. rw counted (fault_rose table_order no_tables answers counts
    (subst (λ (t : Result TableBytes FolderError). HasAnswered no_tables table_order answers t) fault answered)))

-- so a run that ended by the one ended by the other, or a read failed
fault_ended : (asked : Option ConsoleTerms) (request : Request) (seen : List Seen) (expected : Result SystemParts FolderError) (ending : Ending) (counts counts' : ShelfCounts) (before now : Outside)
    → Rose counts.faults counts'.faults → EndsBy asked request seen (Err folder.ReadFault) ending before now
    → ShelfFailed ending counts counts' ⊎ EndsBy asked request seen expected ending before now
fault_ended None request seen expected ending counts counts' before now rose (ended, unasked) =
    elim (ends_without request seen folder.ReadFault expected ending before.held now.held ended) [
      | inl (fault, same) ↦ inl (fault, rose)
      | inr (inl (refusal, other)) ↦ absurd (cc)
      | inr (inr left) ↦ inr (left, unasked)
    ]
fault_ended (Some terms) request seen expected ending counts counts' before now rose ended =
    elim (console_without terms folder.ReadFault expected ending before now ended) [
      | inl (fault, same) ↦ inl (fault, rose)
      | inr (inl (refusal, other)) ↦ absurd (cc)
      | inr (inr left) ↦ inr left
    ]

memory_ended : (asked : Option ConsoleTerms) (request : Request) (seen : List Seen) (expected : Result SystemParts FolderError) (ending : Ending) (before now : Outside)
    → EndsBy asked request seen (Err folder.OutOfMemory) ending before now → EndsBy asked request seen expected ending before now
memory_ended None request seen expected ending before now (ended, unasked) =
    elim (ends_without request seen folder.OutOfMemory expected ending before.held now.held ended) [
      | inl (fault, other) ↦ absurd (cc)
      | inr (inl (refusal, other)) ↦ absurd (cc)
      | inr (inr left) ↦ (left, unasked)
    ]
memory_ended (Some terms) request seen expected ending before now ended =
    elim (console_without terms folder.OutOfMemory expected ending before now ended) [
      | inl (fault, other) ↦ absurd (cc)
      | inr (inl (refusal, other)) ↦ absurd (cc)
      | inr (inr left) ↦ left
    ]

came_ended : (asked : Option ConsoleTerms) (request : Request) (seen : List Seen) (came expected : Result SystemParts FolderError) (ending : Ending) (counts counts' : ShelfCounts) (before now : Outside)
    → CameBy came expected counts counts' → EndsBy asked request seen came ending before now
    → ShelfFailed ending counts counts' ⊎ EndsBy asked request seen expected ending before now
came_ended asked request seen came expected ending counts counts' before now (inl same) ended =
    inr (subst (λ (c : Result SystemParts FolderError). EndsBy asked request seen c ending before now) same ended)
came_ended asked request seen came expected ending counts counts' before now (inr (inl (fault, rose))) ended =
    fault_ended asked request seen expected ending counts counts' before now rose
    (subst (λ (c : Result SystemParts FolderError). EndsBy asked request seen c ending before now) fault ended)
came_ended asked request seen came expected ending counts counts' before now (inr (inr none)) ended =
    inr (memory_ended asked request seen expected ending before now
    (subst (λ (c : Result SystemParts FolderError). EndsBy asked request seen c ending before now) none ended))

-- a run on answers that are those of stored tables is a run on these
pub runs_on : (contents : Option Tables) (stored : Tables) (line : LineParts) (seen : List Seen) (ends : Status) (reads reads' : List Reading) (counts counts' : ShelfCounts) (before now : Outside) (said said' : Option (List ℕ)) (faults faults' : ℕ)
    → contents ≡ Some stored → LineRan contents line seen ends reads reads' counts counts' before now said said' faults faults'
    → RunsOn stored line seen ends counts counts' before now said said' faults faults'
runs_on contents stored line seen ends reads reads' counts counts' before now said said' f f' told run =
    let stood = rw told at run.read.told in
    record {
      ending = run.ending;
      ended = came_ended (console_of (request_of line)) (request_of line) seen (system_outcome (made_number line) run.tables) (stored_outcome stored line) run.ending counts counts' before now
          (came_by (made_number line) stored line.place run.read.answers run.tables counts counts' run.read.answered stood run.read.counted) run.ended;
      told = run.told;
    }

-- the same where memory wasn't found before anything was read
memory_first : (asked : Option ConsoleTerms) (request : Request) (seen : List Seen) (came : Result SystemParts FolderError) (before : Outside) → EndsBy asked request seen came (Err OutOfMemory) before before
memory_first None request seen came before = (refl, record { left = refl; heard = refl; reads = refl })
memory_first (Some terms) request seen came before = inl refl

pub failed_on : (asked : Result LineParts WordFault) (stored : Tables) (line : LineParts) (seen : List Seen) (failure : Failure) (ends : Status) (counts : ShelfCounts) (before : Outside) (said said' : Option (List ℕ)) (faults faults' : ℕ)
    → IsAsked asked (Err failure) → asked ≡ Ok line → Reports failure ends said said' faults faults'
    → RunsOn stored line seen ends counts counts before before said said' faults faults'
failed_on asked stored line seen (Words fault) ends counts before said said' f f' is asks told = absurd (cc)
failed_on asked stored line seen (Refused refusal) ends counts before said said' f f' is asks told = absurd is
failed_on asked stored line seen ReadFault ends counts before said said' f f' is asks told = absurd is
failed_on asked stored line seen WriteFault ends counts before said said' f f' is asks told = absurd is
failed_on asked stored line seen RecorderRefused ends counts before said said' f f' is asks told = absurd is
failed_on asked stored line seen Cancelled ends counts before said said' f f' is asks told = absurd is
failed_on asked stored line seen OutOfMemory ends counts before said said' f f' is asks told = record {
  ending = Err OutOfMemory;
  ended = inr (memory_first (console_of (request_of line)) (request_of line) seen (stored_outcome stored line) before);
  told = told;
}

-- a run on tables that spell a system, where no fault was counted
once_spelled : (request : Request) (seen : List Seen) (came : Result SystemParts FolderError) (system : SystemParts) (ending : Ending) (ends : Status) (held held' said said' : Option (List ℕ)) (f f' : ℕ)
    → came ≡ Ok system → (ends ≡ status.WriteFault → ⊥)
    → Ends request seen came ending held held' → Tells ending ends said said' f f'
    → ((ends ≡ status.Done) × AnswerGained request seen system held held') ⊎ ((ends ≡ status.OutOfMemory) ⊎ (ends ≡ status.RecorderRefused))
once_spelled request seen came system (Ok done) ends held held' said said' f f' spells no_write (other, is, gained) told =
    let same : other ≡ system = cc in
    inl (told.0, subst (λ (s : SystemParts). AnswerGained request seen s held held') same gained)
once_spelled request seen came system (Err (Words fault)) ends held held' said said' f f' spells no_write ended told = absurd ended
once_spelled request seen came system (Err (Refused refusal)) ends held held' said said' f f' spells no_write (is, same) told = absurd (cc)
once_spelled request seen came system (Err ReadFault) ends held held' said said' f f' spells no_write (is, same) told = absurd (cc)
once_spelled request seen came system (Err WriteFault) ends held held' said said' f f' spells no_write ended told = absurd (no_write told.0)
once_spelled request seen came system (Err RecorderRefused) ends held held' said said' f f' spells no_write ended told = inr (inr told.0)
once_spelled request seen came system (Err Cancelled) ends held held' said said' f f' spells no_write (other, is, never) told = absurd never
once_spelled request seen came system (Err OutOfMemory) ends held held' said said' f f' spells no_write ended told = inr (inl told.0)

spelled_ended : (asked : Option ConsoleTerms) (request : Request) (seen : List Seen) (came : Result SystemParts FolderError) (system : SystemParts) (ending : Ending) (ends : Status) (before now : Outside) (said said' : Option (List ℕ)) (f f' : ℕ)
    → came ≡ Ok system → (Rose before.reads now.reads → ⊥) → (ends ≡ status.WriteFault → ⊥)
    → EndsBy asked request seen came ending before now → Tells ending ends said said' f f'
    → AnsweredBy asked request seen system ends before now ⊎ ((ends ≡ status.OutOfMemory) ⊎ (ends ≡ status.RecorderRefused))
spelled_ended None request seen came system ending ends before now said said' f f' spells no_read no_write (ended, unasked) told =
    once_spelled request seen came system ending ends before.held now.held said said' f f' spells no_write ended told
spelled_ended (Some terms) request seen came system ending ends before now said said' f f' spells no_read no_write ended told =
    elim (console_spelled terms came system ending ends before now said said' f f' spells no_read no_write ended told) [
      | inl answered ↦ inl answered
      | inr memory ↦ inr (inl memory)
    ]

-- no fault of the output was counted, so none is answered
pub not_written : (ends : Status) (faults faults' : ℕ) → FaultCounts (says_write_fault ends) ends faults faults' → (Rose faults faults' → ⊥) → ends ≡ status.WriteFault → ⊥
not_written ends faults faults' counts none is = none ((rw is at counts).1)

pub answered_by : (stored : Tables) (line : LineParts) (seen : List Seen) (system : SystemParts) (ends : Status) (counts counts' : ShelfCounts) (before now : Outside) (said said' : Option (List ℕ)) (f f' : ℕ)
    → RunsOn stored line seen ends counts counts' before now said said' f f' → RunsFor stored line system
    → (Rose counts.faults counts'.faults → ⊥) → (Rose before.reads now.reads → ⊥) → (ends ≡ status.WriteFault → ⊥)
    → Answered (request_of line) seen system ends before now ⊎ ((ends ≡ status.OutOfMemory) ⊎ (ends ≡ status.RecorderRefused))
answered_by stored line seen system ends counts counts' before now said said' f f' run spells no_shelf no_read no_write =
    elim run.ended [
      | inl (fault, rose) ↦ absurd (no_shelf rose)
      | inr ended ↦
          spelled_ended (console_of (request_of line)) (request_of line) seen (stored_outcome stored line) system run.ending ends before now said said' f f' spells no_read no_write ended run.told
    ]

-- a run on tables that are refused, where no read of them failed
once_refused : (request : Request) (seen : List Seen) (came : Result SystemParts FolderError) (refusal : Refusal) (ending : Ending) (ends : Status) (held held' said said' : Option (List ℕ)) (f f' : ℕ)
    → came ≡ Err (folder.Refused refusal)
    → Ends request seen came ending held held' → Tells ending ends said said' f f'
    → Tells (Err (Refused refusal)) ends said said' f f' ⊎ (ends ≡ status.OutOfMemory)
once_refused request seen came refusal (Ok done) ends held held' said said' f f' refused (system, is, gained) told = absurd (cc)
once_refused request seen came refusal (Err (Words fault)) ends held held' said said' f f' refused ended told = absurd ended
once_refused request seen came refusal (Err (Refused other)) ends held held' said said' f f' refused (is, same) told =
    let one : other ≡ refusal = cc in
    inl (subst (λ (r : Refusal). Tells (Err (Refused r)) ends said said' f f') one told)
once_refused request seen came refusal (Err ReadFault) ends held held' said said' f f' refused (is, same) told = absurd (cc)
once_refused request seen came refusal (Err WriteFault) ends held held' said said' f f' refused (system, is, gained) told = absurd (cc)
once_refused request seen came refusal (Err RecorderRefused) ends held held' said said' f f' refused (system, is, gained) told = absurd (cc)
once_refused request seen came refusal (Err Cancelled) ends held held' said said' f f' refused (system, is, gained) told = absurd (cc)
once_refused request seen came refusal (Err OutOfMemory) ends held held' said said' f f' refused ended told = inr told.0

refused_ended : (asked : Option ConsoleTerms) (request : Request) (seen : List Seen) (came : Result SystemParts FolderError) (refusal : Refusal) (ending : Ending) (ends : Status) (before now : Outside) (said said' : Option (List ℕ)) (f f' : ℕ)
    → came ≡ Err (folder.Refused refusal)
    → EndsBy asked request seen came ending before now → Tells ending ends said said' f f'
    → Tells (Err (Refused refusal)) ends said said' f f' ⊎ (ends ≡ status.OutOfMemory)
refused_ended None request seen came refusal ending ends before now said said' f f' refused (ended, unasked) told =
    once_refused request seen came refusal ending ends before.held now.held said said' f f' refused ended told
refused_ended (Some terms) request seen came refusal ending ends before now said said' f f' refused ended told =
    console_refused terms came refusal ending ends before now said said' f f' refused ended told

pub refused_by : (stored : Tables) (line : LineParts) (seen : List Seen) (refusal : Refusal) (ends : Status) (counts counts' : ShelfCounts) (before now : Outside) (said said' : Option (List ℕ)) (f f' : ℕ)
    → RunsOn stored line seen ends counts counts' before now said said' f f' → IsRefused stored line refusal
    → (Rose counts.faults counts'.faults → ⊥)
    → Tells (Err (Refused refusal)) ends said said' f f' ⊎ (ends ≡ status.OutOfMemory)
refused_by stored line seen refusal ends counts counts' before now said said' f f' run refused no_shelf =
    elim run.ended [
      | inl (fault, rose) ↦ absurd (no_shelf rose)
      | inr ended ↦
          refused_ended (console_of (request_of line)) (request_of line) seen (stored_outcome stored line) refusal run.ending ends before now said said' f f' refused ended run.told
    ]
