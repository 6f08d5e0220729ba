-- What each command answers.
use Rattle.std.specs.Prelude.{◌≡◌, ◌++◌, Bool, true, false, None, List, ℕ, map}
use Rattle.system_model.specs.System.{SystemParts}
use Rattle.load_model.specs.Need.{net_hour_of, peak_of}
use Rattle.analytic_index.specs.Pool.{pool_of}
use Rattle.analytic_index.specs.Enclosed.{AreIndicesEnclosed, AreOutagesEnclosed}
use Rattle.capacity_credit.specs.declared.brackets.Bracket.{Bracket}
use Rattle.capacity_credit.specs.Bracket.{IsBracket, IsCertified}
use Rattle.index_text.specs.CreditText.{bracket_text}
use Rattle.index_text.specs.TableText.{table_text}
use Rattle.index_text.specs.IndexText.{index_text}
use Rattle.report_text.specs.CheckText.{check_line}
use Rattle.sample_totals.specs.Recorders.{Seen}
use Rattle.adequacy.specs.StudyText.{IsStudyText}
use Rattle.adequacy.specs.Traces.{IsTraceText}
use Rattle.adequacy.specs.declared.words.request.Request.{Request}
use Rattle.adequacy.specs.declared.words.request.Request.TheVariants.{Check, Table, Index, Credit, Trace, Study, Trial, Console}

-- the line of a check
abbrev pub check_text : SystemParts → List ℕ
check_text system =
    let peak = peak_of (map net_hour_of system.hours) in
    check_line system peak.mw peak.hour

-- The bytes answer a request for a system, where recorders are seen so before. Those of a table and of the indices
-- are the text of ends between which the exact values lie; a credit's are the text of the one bracket of the unit's
-- worth, whose ends the exact indices certify, and a trial's are the line of a check and then those of a study.
abbrev pub IsAnswer : Request → List Seen → SystemParts → List ℕ → Type 0
IsAnswer Check seen system text = text ≡ check_text system
IsAnswer Table seen system text =
    AreOutagesEnclosed (pool_of system None).units × (text ≡ table_text (pool_of system None).units)
IsAnswer Index seen system text = AreIndicesEnclosed (pool_of system None) × (text ≡ index_text (pool_of system None))
IsAnswer (Credit terms) seen system text =
    (bracket : Bracket) × IsBracket terms.kind terms.measure system terms.unit terms.most bracket
    × IsCertified terms.kind terms.measure system terms.unit bracket
    × (text ≡ bracket_text terms.kind terms.measure bracket)
IsAnswer (Study terms) seen system text = IsStudyText system terms text
IsAnswer (Trial number terms) seen system text =
    (totals : List ℕ) × IsStudyText system terms totals × (text ≡ check_text system ++ totals)
IsAnswer (Trace terms) seen system text = IsTraceText system terms seen text
IsAnswer (Console terms) seen system text = ⊥

-- whether a request is one whose workers are waited for
abbrev pub waits : Request → Bool
waits (Study terms) = true
waits (Trial number terms) = true
waits (Console terms) = true
waits request = false
