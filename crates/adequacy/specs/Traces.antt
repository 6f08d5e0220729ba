-- What a trace writes, and what it leaves of the recorders.
use Rattle.std.specs.Prelude.{◌≡◌, ◌⊎◌, ℕ, ◌==◌, ◌<◌, Bool, true, List, [], map, length, Option, None, Some, Result, Ok, Err}
use Rattle.std.specs.List.{filter, flat_map}
use Rattle.ra_base.specs.declared.status.Status.{Status}
use Rattle.ra_base.specs.declared.status.Status.TheVariants as status
use Rattle.system_model.specs.System.{SystemParts}
use Rattle.sample_totals.specs.Recorders.{Seen}
use Rattle.sample_run.specs.Trace.{HasLines, CountsAt}
use Rattle.sample_run.specs.declared.traces.TraceError.{TraceError}
use Rattle.sample_run.specs.declared.traces.TraceError.TheVariants as trace
use Rattle.adequacy.specs.declared.traces.TextError.{TextError}
use Rattle.adequacy.specs.declared.traces.TextError.TheVariants.{Refused, OutOfMemory}
use Rattle.adequacy.specs.declared.words.request.TraceTerms.{TraceTerms}
use Rattle.adequacy.specs.declared.words.request.Request.{Request}
use Rattle.adequacy.specs.declared.words.request.Request.TheVariants.{Trace}

-- whether a kind is chosen: the one that is named, or each where none is
abbrev pub is_chosen : Option ℕ → ℕ → Bool
is_chosen None kind = true
is_chosen (Some named) kind = named == kind

-- of what is seen of recorders, that of a kind that is chosen, in its order
abbrev pub chosen : Option ℕ → List Seen → List Seen
chosen named all = filter (λ (seen : Seen). is_chosen named seen.kind) all

-- the recorders of a kind that is chosen, in their order
abbrev pub kept : {R : Type 0} → (R → Seen) → Option ℕ → List R → List R
kept see named recorders = filter (λ r. is_chosen named (see r).kind) recorders

-- the texts of recorders, one behind the other
abbrev pub texts : List Seen → List ℕ
texts all = flat_map (λ (seen : Seen). seen.text) all

-- the bytes are the texts of the chosen recorders, each what it was before and then its lines for the hours of the
-- sample's one run, in each of which no feasible dispatch leaves less load unserved
pub record IsTraceText (system : SystemParts) (terms : TraceTerms) (before : List Seen) (bytes : List ℕ) : Type 0 where
  pub traced : List Seen
  pub lines : HasLines system terms.seed terms.sample (chosen terms.recorder before) traced
  pub is : bytes ≡ texts traced

-- what is seen of a recorder but its text
abbrev pub untold : Seen → Seen
untold seen = record seen { text = [] }

-- the recorders that are left are the chosen ones, each of its kind and with its lines
abbrev pub AreChosen : Option ℕ → List Seen → List Seen → Type 0
AreChosen named before now = map untold now ≡ map untold (chosen named before)

-- recorders have their lines, and none has counted a refusal
pub record HasAllLines {R : Type 0} (see : R → Seen) (count : R → ℕ) (system : SystemParts) (seed sample : ℕ) (before now : List R) : Type 0 where
  pub lines : HasLines system seed sample (map see before) (map see now)
  pub counts : map count now ≡ map count before

-- recorders are of their kinds and with their lines, and one of them has counted a refusal
pub record HasOneRefused {R : Type 0} (see : R → Seen) (count : R → ℕ) (before now : List R) : Type 0 where
  pub told : map untold (map see now) ≡ map untold (map see before)
  pub place : ℕ
  pub within : place < length before
  pub counts : CountsAt place true (map count before) (map count now)

-- why hours that broke off give no text
abbrev pub error_of : TraceError → TextError
error_of (trace.Refused at hour) = Refused
error_of (trace.OutOfMemory at hour) = OutOfMemory

-- recorders after the hours of a sample: each has its lines, or one of them refused, or memory wasn't found
abbrev pub HasTraced : {R : Type 0} → (R → Seen) → (R → ℕ) → SystemParts → ℕ → ℕ → Result (Unit {0}) TextError → List R → List R → Type 0
HasTraced see count system seed sample (Ok done) before now = HasAllLines see count system seed sample before now
HasTraced see count system seed sample (Err Refused) before now = HasOneRefused see count before now
HasTraced see count system seed sample (Err OutOfMemory) before now = map untold (map see now) ≡ map untold (map see before)

-- the chosen recorders are left, and none has counted a refusal
pub record HasKept {R : Type 0} (see : R → Seen) (count : R → ℕ) (named : Option ℕ) (before now : List R) : Type 0 where
  pub are : AreChosen named (map see before) (map see now)
  pub counts : map count now ≡ map count (kept see named before)

-- the chosen recorders are left, and one of them has counted a refusal
pub record HasRefused {R : Type 0} (see : R → Seen) (count : R → ℕ) (named : Option ℕ) (before now : List R) : Type 0 where
  pub are : AreChosen named (map see before) (map see now)
  pub place : ℕ
  pub within : place < length (kept see named before)
  pub counts : CountsAt place true (map count (kept see named before)) (map count now)

-- the recorders after a trace, and its text: where it wasn't made, one of the chosen ones refused, or memory wasn't
-- found
abbrev pub IsTraced : {R : Type 0} → (R → Seen) → (R → ℕ) → SystemParts → TraceTerms → Result (List ℕ) TextError → List R → List R → Type 0
IsTraced see count system terms (Ok text) before now =
    IsTraceText system terms (map see before) text × HasKept see count terms.recorder before now
IsTraced see count system terms (Err Refused) before now = HasRefused see count terms.recorder before now
IsTraced see count system terms (Err OutOfMemory) before now = AreChosen terms.recorder (map see before) (map see now)

-- which trace a request asks for
abbrev pub trace_of : Request → Option TraceTerms
trace_of (Trace terms) = Some terms
trace_of request = None

-- what is left of the recorders, by the trace that is asked for and the status that it ends with. A trace that went
-- through leaves the chosen ones, one that found no memory perhaps all; where none is asked for, no recorder is
-- touched, and none refuses
abbrev pub LeavesBy : {R : Type 0} → (R → Seen) → (R → ℕ) → Option TraceTerms → Status → List R → List R → Type 0
LeavesBy see count (Some terms) status.Done before now = HasKept see count terms.recorder before now
LeavesBy see count (Some terms) status.WriteFault before now = HasKept see count terms.recorder before now
LeavesBy see count (Some terms) status.RecorderRefused before now = HasRefused see count terms.recorder before now
LeavesBy see count (Some terms) status.OutOfMemory before now =
    (now ≡ before) ⊎ AreChosen terms.recorder (map see before) (map see now)
LeavesBy see count (Some terms) ends before now = now ≡ before
LeavesBy see count None status.RecorderRefused before now = ⊥
LeavesBy see count None ends before now = now ≡ before

-- what a request leaves of the recorders, by the status that it ends with
abbrev pub Leaves : {R : Type 0} → (R → Seen) → (R → ℕ) → Request → Status → List R → List R → Type 0
Leaves see count request ends before now = LeavesBy see count (trace_of request) ends before now
