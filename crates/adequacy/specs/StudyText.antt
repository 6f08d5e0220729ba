-- What a study writes: the totals over the runs of its samples.
use Rattle.std.specs.Prelude.{◌≡◌, ℕ, ◌<◌, List, [], length, take, slice_index_or, Option, Bool}
use Rattle.system_model.specs.System.{SystemParts, zone_count}
use Rattle.sample_totals.specs.declared.outcomes.HourOutcome.{HourOutcome}
use Rattle.sample_totals.specs.Estimates.{is_enough}
use Rattle.sample_totals.specs.Totals.{Sheet, totals_of}
use Rattle.sample_run.specs.Run.{IsOnlyRun, IsLeast}
use Rattle.sample_run.specs.SampleWorks.{WorkTerms}
use Rattle.campaign_workers.specs.Rounds.{IsStudyEnd}
use Rattle.report_text.specs.TotalsText.{totals_text}
use Rattle.adequacy.specs.declared.words.request.StudyTerms.{StudyTerms}

-- whether the first so many of these runs are enough for a precision, by their unserved energy
abbrev pub are_enough : ℕ → Option ℕ → List (List HourOutcome) → ℕ → Bool
are_enough zones precision runs count = is_enough (totals_of zones (take count runs)).unserved count precision

-- these are the runs of the samples 0, 1, .. in their order: each sample has just this run, and in each hour of it no
-- feasible dispatch leaves less load unserved
pub record AreRuns (system : SystemParts) (seed : ℕ) (runs : List (List HourOutcome)) : Type 0 where
  pub only : (sample : ℕ) → sample < length runs → IsOnlyRun system seed sample (slice_index_or runs sample [])
  pub least : (sample : ℕ) → sample < length runs → IsLeast system seed sample (slice_index_or runs sample [])

-- the work over the samples of a study
abbrev pub work_of : SystemParts → StudyTerms → WorkTerms
work_of system terms = record { system = system; seed = terms.seed; precision = terms.precision }

-- these are the totals over the runs of the samples 0, 1, .. up to where the study ends
pub record HasStudied (system : SystemParts) (terms : StudyTerms) (sheet : Sheet) : Type 0 where
  pub runs : List (List HourOutcome)
  pub are : AreRuns system terms.seed runs
  pub end :
      IsStudyEnd terms.samples terms.most (are_enough (zone_count system) terms.precision runs) (length runs)
  pub is : sheet ≡ totals_of (zone_count system) runs

-- the bytes are the text of these totals
pub record IsStudyText (system : SystemParts) (terms : StudyTerms) (text : List ℕ) : Type 0 where
  pub sheet : Sheet
  pub studied : HasStudied system terms sheet
  pub is : text ≡ totals_text system.zone_names sheet
