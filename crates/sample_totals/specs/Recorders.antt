-- Recorders: texts that hours are added to.
use Rattle.std.specs.Prelude.{ℕ, List, ◌++◌, Bool, true, false, Result, Ok, Err}
use Rattle.sample_totals.specs.declared.outcomes.HourOutcome.{HourOutcome}
use Rattle.sample_totals.specs.declared.recorder.RecorderError.{RecorderError}
use Rattle.sample_totals.specs.declared.recorder.RecorderError.TheVariants.{Refused, OutOfMemory}

-- what is seen of a recorder: its kind, the line that it has for each outcome, and its text so far
pub record Seen : Type 0 where
  pub kind : ℕ
  pub line : HourOutcome → List ℕ
  pub text : List ℕ

-- a recorder after the line of an outcome
abbrev pub with_line : HourOutcome → Seen → Seen
with_line outcome seen = record seen { text = seen.text ++ seen.line outcome }

-- whether an answer is the refusal that a recorder counts
abbrev pub is_refused : Result (Unit {0}) RecorderError → Bool
is_refused (Ok done) = false
is_refused (Err Refused) = true
is_refused (Err OutOfMemory) = false
