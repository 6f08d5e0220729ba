-- The line that words spell, or their first fault.
use Rattle.std.specs.Prelude.{◌≡◌, ℕ, true, List, [], codes, fold, Some, Result, Ok, Err, if◌then◌else◌, unwrap_or}
use Rattle.decimal_text.specs.Reading.{whole_of}
use Rattle.clap.specs.Walk.{is_empty}
use Rattle.clap.specs.Words.{App, Row, Rule, fault_of, first_of, matches_of, new_app, new_rule, with_rule}
use Rattle.adequacy.specs.CommandWords.{command_named}
use Rattle.adequacy.specs.LineParts.{LineParts, is_below}
use Rattle.adequacy.specs.OptionTable.{option_names}
use Rattle.adequacy.specs.OptionWords.{◌>>=◌, value_or, read_value, run_options_in, trace_options_in, credit_options_in}
use Rattle.adequacy.specs.declared.words.command.Command.{Command}
use Rattle.adequacy.specs.declared.words.command.Command.TheVariants.{Trial}
use Rattle.adequacy.specs.declared.words.fault.WordFault.{WordFault}
use Rattle.adequacy.specs.declared.words.fault.WordFault.TheVariants as fault
use Rattle.adequacy.specs.declared.words.fault.WordsError.{WordsError}
use Rattle.adequacy.specs.declared.words.fault.WordsError.TheVariants as error

-- a positional, which must be there, and an option, which may: each takes one value, at most once
abbrev pub positional : List ℕ → Rule
positional name = record (new_rule name) { required = true }

abbrev pub option : List ℕ → Rule
option name = record (new_rule name) { long = Some name }

abbrev pub with_positional : App → List ℕ → App
with_positional form name = with_rule form (positional name)

abbrev pub with_option : App → List ℕ → App
with_option form name = with_rule form (option name)

-- a command of no words, whose first word isn't its own name, and which has no help
abbrev pub bare_form : App
bare_form =
    let app = new_app (codes "adequacy") in
    record app { top = record app.top { no_binary_name = true; disable_help_flag = true } }

-- the form of the words: a command, its place, and the options in any order and anywhere
unfoldable pub form : App
form =
    fold with_option (with_positional (with_positional bare_form (codes "command")) (codes "place")) option_names

-- the text of a positional, which is there wherever the words have the form
abbrev pub text_in : List ℕ → List Row → List ℕ
text_in name rows = unwrap_or (first_of name rows) []

-- the number of the system that a trial makes; other commands make none
abbrev pub number_of : Command → List ℕ → Result ℕ WordFault
number_of Trial place = value_or fault.BadNumber (read_value (whole_of place))
number_of command place = Ok 0

-- the line, unless its most samples are fewer than its samples
abbrev pub if_enough : LineParts → Result LineParts WordFault
if_enough line = if is_below line.most line.samples then Err fault.MostBelowSamples else Ok line

-- the line that the rows of a parse have, or the first fault: of the command, the number, each option in the order of
-- the table, the most samples
unfoldable pub line_in : List Row → Result LineParts WordFault
line_in rows = do
  command ← value_or fault.NoCommand (command_named (text_in (codes "command") rows))
  number ← number_of command (text_in (codes "place") rows)
  run ← run_options_in command rows
  trace ← trace_options_in command rows
  credit ← credit_options_in command rows
  if_enough (record {
    command = command;
    place = text_in (codes "place") rows;
    number = number;
    samples = run.samples;
    seed = run.seed;
    workers = run.workers;
    block = run.block;
    most = run.most;
    precision = run.precision;
    sample = trace.sample;
    result = trace.result;
    kind = credit.kind;
    measure = credit.measure;
    capacity = credit.capacity;
    failure = credit.failure;
    repair = credit.repair;
    up_to = credit.up_to;
  })

-- the line that words spell: where `clap` takes them for the form, what its matches have, and else a fault of usage
unfoldable pub line_of : List (List ℕ) → Result LineParts WordFault
line_of words = if is_empty (fault_of form words) then line_in (matches_of form words) else Err fault.Usage

-- an answer is the line that the words spell, or their first fault, or want of memory
abbrev pub IsWordsAnswer : List (List ℕ) → Result LineParts WordsError → Type 0
IsWordsAnswer words (Ok line) = line_of words ≡ Ok line
IsWordsAnswer words (Err (error.Words fault)) = line_of words ≡ Err fault
IsWordsAnswer words (Err error.OutOfMemory) = Unit {0}
