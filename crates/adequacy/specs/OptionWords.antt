-- What an option comes to: the value that the words give it, or what the table says where they give none.
use Rattle.std.specs.Prelude.{ℕ, Bool, true, false, List, codes, Option, None, Some, Result, Ok, Err, if◌then◌else◌, option_and_then}
use Rattle.std.specs.Str.{bytes_eq}
use Rattle.clap.specs.Words.{Row, first_of}
use Rattle.capacity_credit.specs.declared.questions.Kind.{Kind}
use Rattle.capacity_credit.specs.declared.questions.Kind.TheVariants.{Efc, Elcc}
use Rattle.capacity_credit.specs.declared.questions.Measure.{Measure}
use Rattle.capacity_credit.specs.declared.questions.Measure.TheVariants.{Lole, Eue}
use Rattle.decimal_text.specs.Reading.{whole_of, billionths_of}
use Rattle.decimal_text.specs.declared.fault.NumberFault.{NumberFault}
use Rattle.adequacy.specs.CommandWords.{is_credit}
use Rattle.adequacy.specs.OptionTable.{kind_number, measure_number, takes, is_within, samples_row, seed_row, workers_row, block_row, most_row, precision_row, sample_row, result_row, capacity_row, failure_row, repair_row, up_to_row}
use Rattle.adequacy.specs.declared.words.command.Command.{Command}
use Rattle.adequacy.specs.declared.words.fault.WordFault.{WordFault}
use Rattle.adequacy.specs.declared.words.fault.WordFault.TheVariants as fault
use Rattle.adequacy.specs.declared.words.options.OptionRow.{OptionRow}
use Rattle.adequacy.specs.declared.words.options.Reading.{Reading}
use Rattle.adequacy.specs.declared.words.options.Reading.TheVariants.{Whole, Billionths, Recorder}
use Rattle.adequacy.specs.declared.words.options.Absent.{Absent}
use Rattle.adequacy.specs.declared.words.options.Absent.TheVariants.{Missing, Default, Nothing}
use Rattle.adequacy.specs.declared.words.values.RunOptions.{RunOptions}
use Rattle.adequacy.specs.declared.words.values.TraceOptions.{TraceOptions}
use Rattle.adequacy.specs.declared.words.values.CreditOptions.{CreditOptions}

infixl 10 ◌>>=◌
abbrev pub ◌>>=◌ : {A B : Type 0} → Result A WordFault → (A → Result B WordFault) → Result B WordFault
(Ok value) >>= next = next value
(Err fault) >>= next = Err fault

-- the value, or a fault where there is none
abbrev pub value_or : {A : Type 0} → WordFault → Option A → Result A WordFault
value_or fault (Some value) = Ok value
value_or fault None = Err fault

abbrev pub read_value : Result ℕ NumberFault → Option ℕ
read_value (Ok value) = Some value
read_value (Err fault) = None

-- the number of a kind of recorder, by its name
abbrev pub recorder_named : List ℕ → Option ℕ
recorder_named name =
    if bytes_eq name (codes "plain") then Some 1
    else if bytes_eq name (codes "shortfall") then Some 2
    else if bytes_eq name (codes "storage") then Some 3
    else if bytes_eq name (codes "cut") then Some 4
    else None

abbrev pub kind_named : List ℕ → Option Kind
kind_named name =
    if bytes_eq name (codes "efc") then Some Efc else if bytes_eq name (codes "elcc") then Some Elcc else None

abbrev pub measure_named : List ℕ → Option Measure
measure_named name =
    if bytes_eq name (codes "lole") then Some Lole else if bytes_eq name (codes "eue") then Some Eue else None

-- the number that a text spells
abbrev pub number_by : Reading → List ℕ → Option ℕ
number_by Whole text = read_value (whole_of text)
number_by Billionths text = read_value (billionths_of text)
number_by Recorder text = recorder_named text

-- the number that a text spells as a row has it, where it is between the row's bounds
abbrev pub number_in : OptionRow → List ℕ → Option ℕ
number_in row text = option_and_then (λ value. if is_within row value then Some value else None) (number_by row.reading text)

-- what stands where an option is absent, by its number
abbrev pub where_absent : ℕ → Absent → Result (Option ℕ) WordFault
where_absent option Missing = Err (fault.Missing option)
where_absent option (Default value) = Ok (Some value)
where_absent option Nothing = Ok None

-- the value of an option, by its number, for a command that takes it or doesn't: what its text spells, and where the
-- words give no text, what stands there
abbrev pub value_for : {A : Type 0} → Command → ℕ → Bool → (List ℕ → Option A) → Result (Option A) WordFault → Option (List ℕ) → Result (Option A) WordFault
value_for command option false read absent None = Ok None
value_for command option false read absent (Some text) = Err (fault.NotFor option command)
value_for command option true read absent None = absent
value_for command option true read absent (Some text) = do
  value ← value_or (fault.Bad option) (read text)
  Ok (Some value)

-- the same of an option whose value is a number
unfoldable pub number_for : Command → OptionRow → Option (List ℕ) → Result (Option ℕ) WordFault
number_for command row text =
    value_for command row.number (takes row.takers command) (number_in row) (where_absent row.number row.absent) text

unfoldable pub kind_for : Command → Option (List ℕ) → Result (Option Kind) WordFault
kind_for command text = value_for command kind_number (is_credit command) kind_named (Err (fault.Missing kind_number)) text

unfoldable pub measure_for : Command → Option (List ℕ) → Result (Option Measure) WordFault
measure_for command text = value_for command measure_number (is_credit command) measure_named (Err (fault.Missing measure_number)) text

-- the options of a run of samples, read from the rows that the parse of the words has
unfoldable pub run_options_in : Command → List Row → Result RunOptions WordFault
run_options_in command rows = do
  samples ← number_for command samples_row (first_of (codes "samples") rows)
  seed ← number_for command seed_row (first_of (codes "seed") rows)
  workers ← number_for command workers_row (first_of (codes "workers") rows)
  block ← number_for command block_row (first_of (codes "block") rows)
  most ← number_for command (most_row samples) (first_of (codes "most") rows)
  precision ← number_for command precision_row (first_of (codes "precision") rows)
  Ok (record { samples = samples; seed = seed; workers = workers; block = block; most = most; precision = precision })

-- the options of a trace
unfoldable pub trace_options_in : Command → List Row → Result TraceOptions WordFault
trace_options_in command rows = do
  sample ← number_for command sample_row (first_of (codes "sample") rows)
  result ← number_for command result_row (first_of (codes "result") rows)
  Ok (record { sample = sample; result = result })

-- the options of a credit
unfoldable pub credit_options_in : Command → List Row → Result CreditOptions WordFault
credit_options_in command rows = do
  kind ← kind_for command (first_of (codes "kind") rows)
  measure ← measure_for command (first_of (codes "measure") rows)
  capacity ← number_for command capacity_row (first_of (codes "capacity") rows)
  failure ← number_for command failure_row (first_of (codes "failure") rows)
  repair ← number_for command (repair_row failure) (first_of (codes "repair") rows)
  up_to ← number_for command up_to_row (first_of (codes "up-to") rows)
  Ok (record { kind = kind; measure = measure; capacity = capacity; failure = failure; repair = repair; up_to = up_to })
