-- What lines are answered: each by the reply that its call has in the history. 10 is the line feed.
use Rattle.std.specs.Prelude.{◌≡◌, ℕ, List, [], ◌∷◌, ◌++◌, length, map, codes}
use Rattle.decimal_text.specs.DecimalText.{whole_text}
use Rattle.campaign_core.specs.declared.call.Call.{Call}
use Rattle.campaign_core.specs.declared.call.Call.TheVariants as call
use Rattle.campaign_core.specs.declared.call.Reply.{Reply}
use Rattle.campaign_core.specs.declared.call.Reply.TheVariants as reply
use Rattle.campaign_core.specs.declared.call.Entry.{Entry}
use Rattle.campaign_core.specs.Ranges.{samples_of}
use Rattle.campaign_core.specs.History.{entry}
use Rattle.system_model.specs.System.{SystemParts, zone_count}
use Rattle.report_text.specs.GateText.{gate_line, interim_text}
use Rattle.sample_run.specs.SampleWorks.{WorkTerms, StandsFor}
use Rattle.campaign_console.specs.declared.requests.Request.{Request}
use Rattle.campaign_console.specs.declared.requests.Request.TheVariants as request
use Rattle.campaign_console.specs.declared.answers.Answer.{Answer}
use Rattle.campaign_console.specs.declared.answers.Answer.TheVariants as answer
use Rattle.campaign_console.specs.LineCalls.{request_of}

-- the text of an answer, over the zones of these names
unfoldable pub answer_text : List (List ℕ) → Answer → List ℕ
answer_text names (answer.Progress gate) = gate_line gate
answer_text names (answer.Report gate runs totals) = interim_text names gate runs totals
answer_text names (answer.Target target) = codes "target " ++ whole_text target ++ 10 ∷ []
answer_text names answer.RefusedCancelled = codes "refused cancelled" ++ 10 ∷ []
answer_text names answer.RefusedSealed = codes "refused sealed" ++ 10 ∷ []
answer_text names (answer.RefusedTooMany target) =
    codes "refused too many target " ++ whole_text target ++ 10 ∷ []
answer_text names answer.Sealed = codes "sealed" ++ 10 ∷ []
answer_text names answer.Cancelled = codes "cancelled" ++ 10 ∷ []
answer_text names answer.Long = codes "refused long" ++ 10 ∷ []
answer_text names answer.Unknown = codes "refused unknown" ++ 10 ∷ []

-- the totals of a report have the zones of the system
abbrev pub HasZones : SystemParts → Answer → Type 0
HasZones system (answer.Report gate runs totals) = length totals.zones ≡ zone_count system
HasZones system other = Unit {0}

-- one entry of the opening pass, whose number is 0
abbrev pub made : Call → Reply → List Entry
made asked replied = entry 0 asked replied ∷ []

-- A request's entries in the history, and its answer. Where it asks for a call it has one entry, whose reply
-- is the answer; the totals of a report are those over the samples of its runs. Any other has none.
abbrev pub IsReplied : WorkTerms → Request → Answer → List Entry → Type 0
IsReplied work request.Progress (answer.Progress gate) entries =
    entries ≡ made call.Progress (reply.Progress gate)
IsReplied work request.Report (answer.Report gate runs totals) entries =
    (entries ≡ made call.Interim (reply.Interim gate runs))
    × StandsFor work.system work.seed totals (map samples_of runs)
IsReplied work (request.Extend more) (answer.Target target) entries =
    entries ≡ made (call.Extend more) (reply.Now target)
IsReplied work (request.Extend more) answer.RefusedCancelled entries =
    entries ≡ made (call.Extend more) reply.Cancelled
IsReplied work (request.Extend more) answer.RefusedSealed entries =
    entries ≡ made (call.Extend more) reply.Sealed
IsReplied work (request.Extend more) (answer.RefusedTooMany target) entries =
    entries ≡ made (call.Extend more) (reply.TooMany target)
IsReplied work request.Seal answer.Sealed entries = entries ≡ made call.Seal reply.Marked
IsReplied work request.Cancel answer.Cancelled entries = entries ≡ made call.Cancel reply.Marked
IsReplied work request.Long answer.Long entries = entries ≡ []
IsReplied work request.Unknown answer.Unknown entries = entries ≡ []
IsReplied work asked other entries = ⊥

-- a line has these entries and this text
pub record IsAnswered (work : WorkTerms) (line : List ℕ) (entries : List Entry) (text : List ℕ) : Type 0 where
  pub given : Answer
  pub replied : IsReplied work (request_of line) given entries
  pub said : text ≡ answer_text work.system.zone_names given

-- a line has the first of these entries and the first of this text, and later lines the rest
pub record Begins (work : WorkTerms) (line : List ℕ) (Later : List Entry → List ℕ → Type 0)
    (entries : List Entry) (text : List ℕ) : Type 0 where
  pub own : List Entry
  pub later : List Entry
  pub said : List ℕ
  pub rest : List ℕ
  pub first : IsAnswered work line own said
  pub others : Later later rest
  pub entries_are : entries ≡ own ++ later
  pub text_is : text ≡ said ++ rest

-- lines have these entries and this text, one line after the other
abbrev pub AreAnswered : WorkTerms → List (List ℕ) → List Entry → List ℕ → Type 0
AreAnswered work [] entries text = (entries ≡ []) × (text ≡ [])
AreAnswered work (line ∷ lines) entries text =
    Begins work line (λ later rest. AreAnswered work lines later rest) entries text
