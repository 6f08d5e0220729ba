-- What stands at each end of a console.
use Rattle.std.specs.Prelude.{◌≡◌, ◌≢◌, ℕ, zero, suc, ◌⊎◌, Bool, true, false, List, [], ◌∷◌, map, Option, MatchBool}
use Rattle.std.specs.List.{list_any}
use Rattle.ra_base.specs.Causes.{Counts, Gained, GainedPart}
use Rattle.campaign_core.specs.declared.run.Run.{Run}
use Rattle.campaign_core.specs.Ranges.{run, samples_of, runs_of}
use Rattle.campaign_core.specs.History.{gate_of, deposits_of, calls_of}
use Rattle.turn_book.specs.declared.view.View.{View}
use Rattle.campaign_workers.specs.Working.{AreWork}
use Rattle.sample_totals.specs.Totals.{Sheet}
use Rattle.sample_run.specs.SampleWorks.{WorkTerms, StandsFor}
use Rattle.report_text.specs.GateText.{interim_text}
use Rattle.campaign_console.specs.declared.lines.LinesEnd.{LinesEnd}
use Rattle.campaign_console.specs.declared.lines.LinesEnd.TheVariants as lines
use Rattle.campaign_console.specs.declared.consoles.ConsoleEnd.{ConsoleEnd}
use Rattle.campaign_console.specs.declared.consoles.ConsoleEnd.TheVariants.{Finished, Cancelled, ReadFault, WriteFault, OutOfMemory}
use Rattle.campaign_console.specs.LineCalls.{asks_cancel}
use Rattle.campaign_console.specs.LineEnds.{Outside, LinesRead}

-- the one run of the samples below a number, or none where there is no such sample
abbrev pub first_runs : ℕ → List Run
first_runs zero = []
first_runs (suc n) = run 0 n ∷ []

-- a text was written, or where the write failed the first part of it, and all else stays
pub record Writes (fails : Bool) (before now : Outside) (text : List ℕ) : Type 0 where
  pub left : now.left ≡ before.left
  pub heard : now.heard ≡ before.heard
  pub reads : now.reads ≡ before.reads
  pub writes : Counts fails before.writes now.writes
  pub written : MatchBool fails (GainedPart before.held now.held text) (Gained before.held now.held text)

module _ {B : Type 0} where
  -- the text of the final report: the gate and the runs of the whole history, and the totals over the samples
  -- of these runs
  pub record IsFinal (terms : WorkTerms) (w : View B) (text : List ℕ) : Type 0 where
    pub totals : Sheet
    pub stands : StandsFor terms.system terms.seed totals (map samples_of (runs_of (deposits_of w.seen)))
    pub is :
        text
        ≡ interim_text terms.system.zone_names (gate_of w.target w.seen) (runs_of (deposits_of w.seen)) totals

  -- in the whole history the other passes' entries are claims and deposits, the runs cover what was given
  -- out, and without a cancel that is all up to the target
  pub record IsComplete (w : View B) : Type 0 where
    pub others : (n : ℕ) → n ≢ 0 → AreWork (calls_of n w.seen)
    pub runs : runs_of (deposits_of w.seen) ≡ first_runs (gate_of w.target w.seen).next
    pub all :
        (gate_of w.target w.seen).cancelled ≡ false
        → (gate_of w.target w.seen).next ≡ (gate_of w.target w.seen).target

  -- All lines were read and answered, by the opening pass's entries in the whole history, and then the final
  -- report was written. Whether the campaign was cancelled is whether a line asked for it.
  pub record Reports (terms : WorkTerms) (cancelled : Bool) (before now : Outside) (w : View B) : Type 0 where
    pub middle : Outside
    pub text : List ℕ
    pub read : LinesRead terms lines.AllRead before middle (calls_of 0 w.seen)
    pub final : IsFinal terms w text
    pub written : Writes false middle now text
    pub complete : IsComplete w
    pub gate : (gate_of w.target w.seen).cancelled ≡ cancelled
    pub cancels : list_any asks_cancel read.answers.lines ≡ cancelled

  -- all lines were read and answered, and then the write of the final report failed
  pub record Fails (terms : WorkTerms) (before now : Outside) (w : View B) : Type 0 where
    pub middle : Outside
    pub text : List ℕ
    pub read : LinesRead terms lines.AllRead before middle (calls_of 0 w.seen)
    pub final : IsFinal terms w text
    pub written : Writes true middle now text

  -- What stands at an end, `before` and `now` being the console and the sink as they were and are, and `w`
  -- the view that has the whole history. At a fault or without memory the lines ended there, or behind the
  -- last of them.
  abbrev pub EndsAs : ConsoleEnd → WorkTerms → Outside → Outside → View B → Type 0
  EndsAs Finished terms before now w = Reports terms false before now w
  EndsAs Cancelled terms before now w = Reports terms true before now w
  EndsAs ReadFault terms before now w = LinesRead terms lines.ReadFault before now (calls_of 0 w.seen)
  EndsAs WriteFault terms before now w =
      LinesRead terms lines.WriteFault before now (calls_of 0 w.seen) ⊎ Fails terms before now w
  EndsAs OutOfMemory terms before now w =
      (end : LinesEnd) × LinesRead terms end before now (calls_of 0 w.seen)

-- the final report, by how the console ends: it was written, or its write failed, or it found no memory
abbrev pub Closes : ConsoleEnd → Bool → Option (List ℕ) → Option (List ℕ) → ℕ → ℕ → List ℕ → Type 0
Closes Finished cancelled held held' writes writes' text =
    (cancelled ≡ false) × Gained held held' text × Counts false writes writes'
Closes Cancelled cancelled held held' writes writes' text =
    (cancelled ≡ true) × Gained held held' text × Counts false writes writes'
Closes WriteFault cancelled held held' writes writes' text =
    GainedPart held held' text × Counts true writes writes'
Closes OutOfMemory cancelled held held' writes writes' text = (held' ≡ held) × (writes' ≡ writes)
Closes ReadFault cancelled held held' writes writes' text = ⊥

-- the same by how the lines ended: the final report comes only where all were read
abbrev pub ClosesLines : LinesEnd → ConsoleEnd → Bool → Option (List ℕ) → Option (List ℕ) → ℕ → ℕ
    → List ℕ → Type 0
ClosesLines lines.AllRead end cancelled held held' writes writes' text =
    Closes end cancelled held held' writes writes' text
ClosesLines lines.ReadFault end cancelled held held' writes writes' text =
    (end ≡ ReadFault) × (held' ≡ held) × (writes' ≡ writes)
ClosesLines lines.WriteFault end cancelled held held' writes writes' text =
    (end ≡ WriteFault) × (held' ≡ held) × (writes' ≡ writes)
ClosesLines lines.OutOfMemory end cancelled held held' writes writes' text =
    (end ≡ OutOfMemory) × (held' ≡ held) × (writes' ≡ writes)

-- and where a worker found no memory, that is the end
abbrev pub ClosesRan : Bool → LinesEnd → ConsoleEnd → Bool → Option (List ℕ) → Option (List ℕ) → ℕ → ℕ
    → List ℕ → Type 0
ClosesRan true ended end cancelled held held' writes writes' text =
    (end ≡ OutOfMemory) × (held' ≡ held) × (writes' ≡ writes)
ClosesRan false ended end cancelled held held' writes writes' text =
    ClosesLines ended end cancelled held held' writes writes' text
