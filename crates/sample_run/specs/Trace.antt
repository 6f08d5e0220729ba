-- What a trace leaves in its recorders.
use Rattle.std.specs.Prelude.{◌≡◌, ℕ, ◌+◌, ◌<◌, Bool, true, false, List, [], ◌∷◌, ◌++◌, length, map, take, drop, slice_set, slice_index}
use Rattle.std.specs.List.{flat_map}
use Rattle.ra_base.specs.Causes.{Counts}
use Rattle.system_model.specs.System.{SystemParts}
use Rattle.outage_chronology.specs.Outages.{is_up}
use Rattle.sample_totals.specs.declared.outcomes.HourOutcome.{HourOutcome}
use Rattle.sample_totals.specs.Recorders.{Seen, with_line}
use Rattle.sample_run.specs.declared.traces.TraceError.{TraceError}
use Rattle.sample_run.specs.declared.traces.TraceError.TheVariants.{Refused, OutOfMemory}
use Rattle.sample_run.specs.Run.{IsHour, IsLeast, IsOnlyRun, energies_before, outcome_at}

-- the outcomes of the first hours of a sample, so many of them: those of a run, as far as they go
pub record AreFirstHours (system : SystemParts) (seed sample count : ℕ) (outcomes : List HourOutcome) : Type 0 where
  pub size : length outcomes ≡ count
  pub each :
      (hour : ℕ)
      → hour < count
      → IsHour system (is_up system seed sample hour) (energies_before system outcomes hour) hour (outcome_at outcomes hour)

-- a recorder after the lines of outcomes
abbrev pub with_lines : List HourOutcome → Seen → Seen
with_lines outcomes seen = record seen { text = seen.text ++ flat_map seen.line outcomes }

-- recorders where an hour broke off at a place: those before it have the line of that hour, the others haven't
abbrev pub with_line_before : ℕ → HourOutcome → List Seen → List Seen
with_line_before place outcome all = map (with_line outcome) (take place all) ++ drop place all

-- the place and the hour of an error, and whether a recorder refused
abbrev pub place_of : TraceError → ℕ
place_of (Refused at hour) = at
place_of (OutOfMemory at hour) = at

abbrev pub hour_of : TraceError → ℕ
hour_of (Refused at hour) = hour
hour_of (OutOfMemory at hour) = hour

abbrev pub is_refusal : TraceError → Bool
is_refusal (Refused at hour) = true
is_refusal (OutOfMemory at hour) = false

-- of all counts that at a place alone changes, and it rises where the recorder there refused
pub record CountsAt (place : ℕ) (refused : Bool) (before now : List ℕ) : Type 0 where
  pub count : ℕ
  pub counts : Counts refused (slice_index before place) count
  pub others : now ≡ slice_set before place count

-- recorders have gained their lines for the hours of a sample's one run, in each of which no feasible dispatch leaves
-- less load unserved
abbrev pub HasLines : SystemParts → ℕ → ℕ → List Seen → List Seen → Type 0
HasLines system seed sample before now =
    (run : List HourOutcome)
    × IsOnlyRun system seed sample run
    × IsLeast system seed sample run
    × (now ≡ map (with_lines run) before)

-- recorders have gained their lines for the hours before an hour, and those before a place that for this hour too
abbrev pub HasBroken : SystemParts → ℕ → ℕ → ℕ → ℕ → List Seen → List Seen → Type 0
HasBroken system seed sample place hour before now =
    (outcomes : List HourOutcome)
    × (last : HourOutcome)
    × AreFirstHours system seed sample (hour + 1) (outcomes ++ last ∷ [])
    × (now ≡ with_line_before place last (map (with_lines outcomes) before))
