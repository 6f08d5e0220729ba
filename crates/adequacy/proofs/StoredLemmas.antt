-- What reads come to where the shelf tells its tables: what the stored tables come to, unless a read failed or memory
-- wasn't found.
use Rattle.std.proofs.Common.{◌≡◌, ℕ, ◌≤◌, ◌<◌, List, [], ◌∷◌, length, Option, Some, true, false, Result, Ok, Err, refl, subst, inl, inr, ◌⊎◌, arith}
use Rattle.std.specs.Prelude.{nat_le}
use Rattle.ra_base.specs.declared.limits.TheConstants.{MOST_TABLE_BYTES}
use Rattle.ra_base.specs.Outside.{Tables, ReadsAs}
use Rattle.ra_base.specs.declared.shelf.ShelfError.TheVariants.{Missing as NoTable, TooLong as LongTable, Fault as ReadFailed, OutOfMemory as NoRoom}
use Rattle.ra_base.specs.declared.table.TableName.{TableName}
use Rattle.ra_base.specs.declared.table.TableBytes.{TableBytes}
use Rattle.adequacy.specs.declared.tables.FolderError.{FolderError}
use Rattle.adequacy.specs.declared.tables.FolderError.TheVariants.{ReadFault, OutOfMemory}
use Rattle.ra_base.specs.Causes.{Counts, Rose}
use Rattle.ra_base.specs.ShelfCounts.{counted}
use Rattle.ra_base.specs.declared.shelf_counts.ShelfCounts.{ShelfCounts}
use Rattle.adequacy.specs.Folder.{Answer, read_outcome, with_table, HasAnswered, AreTold, counts_after, is_read_failure, stored_answer, stored_from}
use Rattle.adequacy.proofs.FolderLemmas.{ending_counted}

-- what came of reads is this, or a read failed, or memory wasn't found
abbrev pub IsUnless : {T : Type 0} → Result T FolderError → Result T FolderError → Type 0
IsUnless outcome expected = (outcome ≡ expected) ⊎ ((outcome ≡ Err ReadFault) ⊎ (outcome ≡ Err OutOfMemory))

long_enough : (n : ℕ) → n ≤ MOST_TABLE_BYTES → nat_le n MOST_TABLE_BYTES ≡ true
long_enough n h = Prim.grind (arith, h)

too_long : (n : ℕ) → MOST_TABLE_BYTES < n → nat_le n MOST_TABLE_BYTES ≡ false
too_long n h = Prim.grind (arith, h)

-- an answer is that of what is stored, or a failure
answer_is : (stored : Option (List ℕ)) (answer : Answer) → ReadsAs stored answer → (answer ≡ stored_answer stored) ⊎ ((answer ≡ Err ReadFailed) ⊎ (answer ≡ Err NoRoom))
answer_is stored (Ok text) (is, short) = rw (is, long_enough (length text) short) (inl refl)
answer_is stored (Err NoTable) is = rw is (inl refl)
answer_is stored (Err LongTable) (text, is, long) = rw (is, too_long (length text) long) (inl refl)
answer_is stored (Err ReadFailed) is = inr (inl refl)
answer_is stored (Err NoRoom) is = inr (inr refl)

-- what stored tables come to after an answer's outcome
abbrev pub stored_onward : Tables → List ℕ → List TableName → TableName → TableBytes → Result (Option (List ℕ)) FolderError → Result TableBytes FolderError
stored_onward stored folder order table tables (Ok text) = stored_from stored folder order (with_table tables table text)
stored_onward stored folder order table tables (Err error) = Err error

-- what was answered after an answer's outcome
abbrev pub AnsweredOnward : List TableName → TableName → TableBytes → List Answer → Result TableBytes FolderError → Result (Option (List ℕ)) FolderError → Type 0
AnsweredOnward order table tables answers outcome (Ok text) = HasAnswered (with_table tables table text) order answers outcome
AnsweredOnward order table tables answers outcome (Err error) = (answers ≡ []) × (outcome ≡ Err error)

onward : (stored : Tables) (folder : List ℕ) (order : List TableName) (table : TableName) (tables : TableBytes) (answers : List Answer) (outcome : Result TableBytes FolderError) (read : Result (Option (List ℕ)) FolderError)
    → ((t : TableBytes) → HasAnswered t order answers outcome → IsUnless outcome (stored_from stored folder order t))
    → AnsweredOnward order table tables answers outcome read → IsUnless outcome (stored_onward stored folder order table tables read)
onward stored folder order table tables answers outcome (Ok text) later answered = later (with_table tables table text) answered
onward stored folder order table tables answers outcome (Err error) later answered = inl answered.1

pub told_outcome : (stored : Tables) (folder : List ℕ) (order : List TableName) (answers : List Answer) (tables : TableBytes) (outcome : Result TableBytes FolderError)
    → HasAnswered tables order answers outcome → AreTold (Some stored) folder order answers → IsUnless outcome (stored_from stored folder order tables)
told_outcome stored folder [] answers tables outcome answered told = inl answered.1
told_outcome stored folder (table ∷ order) [] tables outcome answered told = absurd answered
told_outcome stored folder (table ∷ order) (answer ∷ answers) tables outcome answered told =
    let after : AnsweredOnward order table tables answers outcome (read_outcome table answer) = answered in
    elim (answer_is (stored folder table) answer told.0) [
      | inl same ↦
          subst (λ (a : Answer). IsUnless outcome (stored_onward stored folder order table tables (read_outcome table a))) same
          (onward stored folder order table tables answers outcome (read_outcome table answer)
          (λ t h. told_outcome stored folder order answers t outcome h told.1) after)
      | inr (inl failed) ↦
          let ends = subst (λ (a : Answer). AnsweredOnward order table tables answers outcome (read_outcome table a)) failed after in
          inr (inl ends.1)
      | inr (inr none) ↦
          let ends = subst (λ (a : Answer). AnsweredOnward order table tables answers outcome (read_outcome table a)) none after in
          inr (inr ends.1)
    ]

-- a read that lets the reading go on is counted as no fault
going_counted : (table : TableName) (answer : Answer) (text : Option (List ℕ)) (counts : ShelfCounts) → read_outcome table answer ≡ Ok text → (counted counts answer).faults ≡ counts.faults
going_counted table (Ok bytes) text counts goes = refl
going_counted table (Err NoTable) text counts goes = refl
going_counted table (Err LongTable) text counts goes = absurd (cc)
going_counted table (Err ReadFailed) text counts goes = absurd (cc)
going_counted table (Err NoRoom) text counts goes = absurd (cc)

-- reads that came to a fault were counted as one, by the answer that ended them or by one behind it
fault_onward : (order : List TableName) (table : TableName) (tables : TableBytes) (answer : Answer) (answers : List Answer) (counts : ShelfCounts) (read : Result (Option (List ℕ)) FolderError)
    → read_outcome table answer ≡ read
    → ((t : TableBytes) (c : ShelfCounts) → HasAnswered t order answers (Err ReadFault) → Rose c.faults (counts_after c answers).faults)
    → AnsweredOnward order table tables answers (Err ReadFault) read
    → Rose counts.faults (counts_after (counted counts answer) answers).faults
fault_onward order table tables answer answers counts (Ok text) is later answered =
    subst (λ (f : ℕ). Rose f (counts_after (counted counts answer) answers).faults) (going_counted table answer text counts is)
    (later (with_table tables table text) (counted counts answer) answered)
fault_onward order table tables answer answers counts (Err error) is later (none, same) =
    let fault : error ≡ ReadFault = cc in
    rw none
    (subst (λ (e : FolderError). Counts (is_read_failure {T = TableBytes} (Err e)) counts.faults (counted counts answer).faults) fault
    (ending_counted table answer error counts is)).1

pub fault_rose : (order : List TableName) (tables : TableBytes) (answers : List Answer) (counts : ShelfCounts)
    → HasAnswered tables order answers (Err ReadFault) → Rose counts.faults (counts_after counts answers).faults
fault_rose [] tables answers counts answered = absurd (cc)
fault_rose (table ∷ order) tables [] counts answered = absurd answered
fault_rose (table ∷ order) tables (answer ∷ answers) counts answered =
    fault_onward order table tables answer answers counts (read_outcome table answer) refl (λ t c h. fault_rose order t answers c h) answered
