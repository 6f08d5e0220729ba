-- The reads of a folder, one table after another.
use Rattle.std.proofs.Common.{◌≡◌, ℕ, ◌≤◌, List, [], ◌∷◌, ◌++◌, length, take, drop, ◌-◌, Option, None, Bool, true, false, Result, Ok, Err, refl, sym, ap, ◌∙◌, subst, append_assoc, arith}
use Rattle.std.specs.Prelude.{slice_index_or, if◌then◌else◌}
use Rattle.std.proofs.lemmas.List.{append-nil, take_rest}
use Rattle.ra_base.specs.Causes.{Counts}
use Rattle.ra_base.specs.Outside.{Tables, ReadsTold}
use Rattle.ra_base.specs.declared.shelf.ShelfError.TheVariants.{Missing as NoTable, TooLong as LongTable, Fault as ReadFailed, OutOfMemory as NoRoom}
use Rattle.ra_base.specs.Reading.{Reading, reading}
use Rattle.ra_base.specs.ShelfCounts.{counted}
use Rattle.ra_base.specs.declared.shelf_counts.ShelfCounts.{ShelfCounts}
use Rattle.ra_base.specs.declared.table.TableName.{TableName}
use Rattle.ra_base.specs.declared.table.TableName.TheVariants.{Zones}
use Rattle.ra_base.specs.declared.table.TableBytes.{TableBytes}
use Rattle.adequacy.specs.declared.tables.FolderError.{FolderError}
use Rattle.adequacy.specs.declared.tables.FolderError.TheVariants.{Refused, ReadFault, OutOfMemory}
use Rattle.adequacy.specs.declared.tables.Refusal.TheVariants.{Missing, TooLong}
use Rattle.adequacy.specs.Folder.{Answer, read_outcome, with_table, HasAnswered, readings, counts_after, AreTold, HasRead, can_be_missing, is_read_failure}

-- no table is left to be read
pub read_none : (contents : Option Tables) (folder : List ℕ) (tables : TableBytes) (reads : List Reading) (counts : ShelfCounts) → HasRead contents folder tables [] (Ok tables) reads reads counts counts
read_none contents folder tables reads counts = record {
  answers = [];
  answered = (refl, refl);
  noted = sym (append-nil reads);
  counted = refl;
  told = tt;
}

-- the next table's answer ends the reading
pub reading_ends : (contents : Option Tables) (folder : List ℕ) (tables : TableBytes) (order : List TableName) (answer : Answer) (error : FolderError) (outcome : Result TableBytes FolderError) (reads reads' : List Reading) (counts counts' : ShelfCounts)
    → 1 ≤ length order
    → read_outcome (slice_index_or order 0 Zones) answer ≡ Err error
    → outcome ≡ Err error
    → reads' ≡ reads ++ reading folder (slice_index_or order 0 Zones) answer ∷ []
    → counts' ≡ counted counts answer
    → ReadsTold contents folder (slice_index_or order 0 Zones) answer
    → HasRead contents folder tables order outcome reads reads' counts counts'
reading_ends contents folder tables [] answer error outcome reads reads' counts counts' some ends is noted counted told = absurd (omega arith)
reading_ends contents folder tables (table ∷ order) answer error outcome reads reads' counts counts' some ends is noted counted told = record {
  answers = answer ∷ [];
  answered = rw (ends, HasAnswered) (refl, is);
  noted = noted;
  counted = counted;
  told = (told, tt);
}

-- the next table's answer lets the reading go on
pub reading_goes_on : (contents contents' : Option Tables) (folder : List ℕ) (tables : TableBytes) (order : List TableName) (answer : Answer) (text : Option (List ℕ)) (tables' : TableBytes) (outcome : Result TableBytes FolderError) (reads mid reads' : List Reading) (counts half counts' : ShelfCounts)
    → 1 ≤ length order
    → read_outcome (slice_index_or order 0 Zones) answer ≡ Ok text
    → tables' ≡ with_table tables (slice_index_or order 0 Zones) text
    → contents' ≡ contents
    → mid ≡ reads ++ reading folder (slice_index_or order 0 Zones) answer ∷ []
    → half ≡ counted counts answer
    → ReadsTold contents folder (slice_index_or order 0 Zones) answer
    → HasRead contents' folder tables' (take (length order - 1) (drop 1 order)) outcome mid reads' half counts'
    → HasRead contents folder tables order outcome reads reads' counts counts'
reading_goes_on contents contents' folder tables [] answer text tables' outcome reads mid reads' counts half counts' some goes set same noted counted told rest = absurd (omega arith)
reading_goes_on contents contents' folder tables (table ∷ order) answer text tables' outcome reads mid reads' counts half counts' some goes set same noted counted told left =
    let rest : HasRead contents' folder tables' order outcome mid reads' half counts' = subst (λ (o : List TableName). HasRead contents' folder tables' o outcome mid reads' half counts') (take_rest (table ∷ order) 1) left in record {
      answers = answer ∷ rest.answers;
      answered = rw (goes, HasAnswered) (subst (λ (t : TableBytes). HasAnswered t order rest.answers outcome) set rest.answered);
      noted = rest.noted ∙ ap (λ (r : List Reading). r ++ readings folder order rest.answers) noted ∙ append_assoc reads (reading folder table answer ∷ []) (readings folder order rest.answers);
      counted = rest.counted ∙ ap (λ (c : ShelfCounts). counts_after c rest.answers) counted;
      told = (told, subst (λ (c : Option Tables). AreTold c folder order rest.answers) same rest.told);
    }

-- a table that may not be missing is refused
missing_refused : (b : Bool) (table : TableName) (error : FolderError) (outcome : Result (Option (List ℕ)) FolderError) → outcome ≡ (if b then Ok None else Err (Refused (Missing table))) → outcome ≡ Err error → error ≡ Refused (Missing table)
missing_refused true table error outcome is e = absurd (cc)
missing_refused false table error outcome is e = cc

-- an answer that ends the reading is counted as a fault exactly where it is one
pub ending_counted : (table : TableName) (answer : Answer) (error : FolderError) (counts : ShelfCounts) → read_outcome table answer ≡ Err error → Counts (is_read_failure {T = TableBytes} (Err error)) counts.faults (counted counts answer).faults
ending_counted table (Ok text) error counts e = absurd (cc)
ending_counted table (Err NoTable) error counts e = rw (missing_refused (can_be_missing table) table error (read_outcome table (Err NoTable)) refl e) refl
ending_counted table (Err LongTable) error counts e =
    let is : error ≡ Refused (TooLong table) = cc in rw is refl
ending_counted table (Err ReadFailed) error counts e =
    let is : error ≡ ReadFault = cc in rw is (omega arith, omega arith)
ending_counted table (Err NoRoom) error counts e =
    let is : error ≡ OutOfMemory = cc in rw is refl
