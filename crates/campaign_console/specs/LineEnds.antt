-- What came of the lines of a console: those that came were answered, up to an end.
use Rattle.std.specs.Prelude.{◌≡◌, ℕ, ◌⊎◌, Bool, true, false, List, [], ◌∷◌, ◌++◌, map, Option, Some, None, IfSome, Result, Ok, Err}
use Rattle.ra_base.specs.Causes.{Counts, Gained, GainedPart}
use Rattle.ra_base.specs.ConsoleLines.{cut_line}
use Rattle.ra_base.specs.declared.console.ConsoleError.{ConsoleError}
use Rattle.ra_base.specs.declared.console.ConsoleError.TheVariants as unread
use Rattle.campaign_core.specs.declared.call.Call.{Call}
use Rattle.campaign_core.specs.declared.call.Call.TheVariants as call
use Rattle.campaign_core.specs.declared.call.Reply.TheVariants as reply
use Rattle.campaign_core.specs.declared.call.Entry.{Entry}
use Rattle.turn_book.specs.declared.view.View.{View}
use Rattle.sample_run.specs.SampleWorks.{WorkTerms}
use Rattle.campaign_console.specs.declared.requests.Request.TheVariants.{Report}
use Rattle.campaign_console.specs.declared.lines.LinesEnd.{LinesEnd}
use Rattle.campaign_console.specs.declared.lines.LinesEnd.TheVariants.{AllRead, ReadFault, WriteFault, OutOfMemory}
use Rattle.campaign_console.specs.LineCalls.{request_of}
use Rattle.campaign_console.specs.LineTexts.{made, IsAnswered, AreAnswered}
use Rattle.campaign_console.specs.Asks.{Adds}

-- what a console answers to one call
abbrev pub Heard : Type 0
Heard = Result (Option (List ℕ)) ConsoleError

-- a console and a sink as they are seen at one time: the lines that are left, where they are told, and what
-- the console has answered so far; the bytes that the sink holds, where they are told; and how often a read
-- and a write failed
pub record Outside : Type 0 where
  pub left : Option (List (List ℕ))
  pub heard : List Heard
  pub held : Option (List ℕ)
  pub reads : ℕ
  pub writes : ℕ

abbrev pub outside_of : {C O : Type 0} → (C → Option (List (List ℕ))) → (C → List Heard) → (C → ℕ)
    → (O → Option (List ℕ)) → (O → ℕ) → C → O → Outside
outside_of left_of heard_by reads_of held_by writes_of console sink = record {
  left = left_of console;
  heard = heard_by console;
  held = held_by sink;
  reads = reads_of console;
  writes = writes_of sink;
}

-- a line that came
abbrev pub came : List ℕ → Heard
came line = Ok (Some line)

-- what was heard behind the lines that came, by how they ended: none is left, or the read failed, or found no
-- memory
abbrev pub IsLast : Option LinesEnd → List Heard → Type 0
IsLast (Some AllRead) last = last ≡ Ok None ∷ []
IsLast (Some ReadFault) last = last ≡ Err unread.Fault ∷ []
IsLast (Some OutOfMemory) last = (last ≡ []) ⊎ (last ≡ Err unread.OutOfMemory ∷ [])
IsLast end last = last ≡ []

-- the lines behind those that were answered: none, or a report whose call found no memory
abbrev pub MayLack : Option LinesEnd → List (List ℕ) → Type 0
MayLack (Some OutOfMemory) (line ∷ []) = request_of line ≡ Report
MayLack end lines = lines ≡ []

-- where the console tells its lines, those that came were the first of them, and the others are left
abbrev pub AreTaken : Option (List (List ℕ)) → Option (List (List ℕ)) → List (List ℕ) → Type 0
AreTaken None now lines = now ≡ None
AreTaken (Some before) now lines =
    (taken : List (List ℕ)) × (rest : List (List ℕ))
    × (now ≡ Some rest) × (before ≡ taken ++ rest) × (lines ≡ map cut_line taken)

-- where all were read none is left
abbrev pub AllTaken : Option LinesEnd → Option (List (List ℕ)) → Type 0
AllTaken (Some AllRead) left = IfSome left (λ rest. rest ≡ [])
AllTaken end left = Unit {0}

-- the text was written, or where the lines ended at a failed write or without memory the first part of it
abbrev pub IsWritten : Option LinesEnd → Option (List ℕ) → Option (List ℕ) → List ℕ → Type 0
IsWritten (Some WriteFault) before now text = GainedPart before now text
IsWritten (Some OutOfMemory) before now text = GainedPart before now text
IsWritten end before now text = Gained before now text

-- whether the lines ended at a failed read, or at a failed write
abbrev pub is_read_fault : Option LinesEnd → Bool
is_read_fault (Some ReadFault) = true
is_read_fault end = false

abbrev pub is_write_fault : Option LinesEnd → Bool
is_write_fault (Some WriteFault) = true
is_write_fault end = false

-- Lines came and were answered, with these entries in the history, up to an end if there was one.
pub record Answers (work : WorkTerms) (end : Option LinesEnd) (before now : Outside) (entries : List Entry)
    : Type 0 where
  pub lines : List (List ℕ)
  pub lacking : List (List ℕ)
  pub last : List Heard
  pub text : List ℕ
  pub heard : now.heard ≡ before.heard ++ (map came (lines ++ lacking) ++ last)
  pub is_last : IsLast end last
  pub lacks : MayLack end lacking
  pub apart : (lacking ≡ []) ⊎ (last ≡ [])
  pub taken : AreTaken before.left now.left (lines ++ lacking)
  pub all : AllTaken end now.left
  pub answered : AreAnswered work lines entries text
  pub written : IsWritten end before.held now.held text
  pub reads : Counts (is_read_fault end) before.reads now.reads
  pub writes : Counts (is_write_fault end) before.writes now.writes

-- What came of one line, with these entries: it was answered and its text written; or the write failed; or
-- memory wasn't found, for its text or for its call.
abbrev pub Gives : WorkTerms → List ℕ → Option LinesEnd → Option (List ℕ) → Option (List ℕ) → ℕ → ℕ
    → List Entry → Type 0
Gives work line None held held' writes writes' entries =
    (text : List ℕ) × IsAnswered work line entries text × Gained held held' text × Counts false writes writes'
Gives work line (Some WriteFault) held held' writes writes' entries =
    (text : List ℕ) × IsAnswered work line entries text
    × GainedPart held held' text × Counts true writes writes'
Gives work line (Some OutOfMemory) held held' writes writes' entries =
    (((text : List ℕ) × IsAnswered work line entries text) ⊎ ((request_of line ≡ Report) × (entries ≡ [])))
    × (held' ≡ held) × Counts false writes writes'
Gives work line end held held' writes writes' entries = ⊥

-- the call with which the lines end: at their end a seal, and else a cancel
abbrev pub last_call : LinesEnd → Call
last_call AllRead = call.Seal
last_call end = call.Cancel

-- the lines were read and answered up to an end, and then the campaign sealed or cancelled; these are all
-- entries
pub record LinesRead (work : WorkTerms) (end : LinesEnd) (before now : Outside) (own : List Entry)
    : Type 0 where
  pub entries : List Entry
  pub answers : Answers work (Some end) before now entries
  pub are : own ≡ entries ++ made (last_call end) reply.Marked

module _ {B : Type 0} where
  -- lines were answered by the calls of a pass
  pub record LinesRan (work : WorkTerms) (end : Option LinesEnd) (before now : Outside) (v w : View B)
      : Type 0 where
    pub entries : List Entry
    pub answers : Answers work end before now entries
    pub adds : Adds entries v w

  -- one line was answered by the calls of a pass
  pub record LineRan (work : WorkTerms) (line : List ℕ) (end : Option LinesEnd) (held held' : Option (List ℕ))
      (writes writes' : ℕ) (v w : View B) : Type 0 where
    pub entries : List Entry
    pub gives : Gives work line end held held' writes writes' entries
    pub adds : Adds entries v w

  -- the same up to an end, at which the pass sealed or cancelled
  pub record LinesCalled (work : WorkTerms) (end : LinesEnd) (before now : Outside) (v w : View B)
      : Type 0 where
    pub own : List Entry
    pub read : LinesRead work end before now own
    pub adds : Adds own v w
