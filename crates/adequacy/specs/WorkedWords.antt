-- Words that the definitions work out, each known by the rules: `clap`'s for the form, the table's for the values.
use Rattle.std.specs.Prelude.{⊤, ◌≡◌, ℕ, ◌==◌, ◌++◌, List, [], ◌∷◌, map, replicate, codes, None, Some, Result, Ok, Err, if◌then◌else◌, refl}
use Rattle.capacity_credit.specs.declared.questions.Kind.TheVariants.{Efc, Elcc}
use Rattle.capacity_credit.specs.declared.questions.Measure.TheVariants.{Lole, Eue}
use Rattle.clap.proofs.OnLiterals.{clap_on_literals}
use Rattle.decimal_text.specs.Reading.{whole_of, billionths_of, numeral_of, read_on, scaled, first_below_one}
use Rattle.adequacy.specs.LineParts.{LineParts}
use Rattle.adequacy.specs.OptionWords.{credit_options_in, kind_for, measure_for, number_for, run_options_in, trace_options_in}
use Rattle.adequacy.specs.Words.{form, line_in, line_of}
use Rattle.adequacy.specs.declared.words.command.Command.{Command}
use Rattle.adequacy.specs.declared.words.command.Command.TheVariants.{Check, Table, Index, Credit, Trace, Study, Trial, Console}
use Rattle.adequacy.specs.declared.words.fault.WordFault.{WordFault}
use Rattle.adequacy.specs.declared.words.fault.WordFault.TheVariants.{Usage, NoCommand, BadNumber, NotFor, Missing, Bad, MostBelowSamples}

-- what a row below unfolds to be worked out
unfoldable line_on_literals : ⊤
unfolding
    clap_on_literals form line_of line_in run_options_in trace_options_in credit_options_in number_for kind_for measure_for
    whole_of billionths_of numeral_of read_on scaled first_below_one
line_on_literals = tt

-- a text split at each space (32) into words
abbrev split : List ℕ → List ℕ → List (List ℕ)
split word [] = word ∷ []
split word (b ∷ rest) = if b == 32 then word ∷ split [] rest else split (word ++ b ∷ []) rest

-- the line that a text's words spell
abbrev line : List ℕ → Result LineParts WordFault
line text = line_of (split [] text)

-- a line with no option
abbrev plain : Command → LineParts
plain command = record {
  command = command;
  place = codes "F";
  number = 0;
  samples = None;
  seed = None;
  workers = None;
  block = None;
  most = None;
  precision = None;
  sample = None;
  result = None;
  kind = None;
  measure = None;
  capacity = None;
  failure = None;
  repair = None;
  up_to = None;
}

abbrev study : ℕ → LineParts
study samples = record (plain Study) { samples = Some samples; seed = Some 1; workers = Some 1; block = Some 100; most = Some samples }

no_words : line_of [] ≡ Err Usage
unfolding line_on_literals
no_words = refl

-- words that `clap` doesn't take for the form: too few and too many words, an option twice, without a value, by a part of
-- its name, by another name, a value or a word that looks like an option, a wish for help, an option behind `--`
usages : map line (codes "study"
    ∷ codes "study F G --samples 2"
    ∷ codes "study F --samples 2 --samples 3"
    ∷ codes "study F --samples"
    ∷ codes "study F --sampl 2"
    ∷ codes "study F --Samples 2"
    ∷ codes "study F --samples 2 --jobs 3"
    ∷ codes "study F --samples -3"
    ∷ codes "study F --samples 3 -5"
    ∷ codes "--help"
    ∷ codes "study F --samples 2 --help"
    ∷ codes "study F --samples 2 -h"
    ∷ codes "study F --samples 2 --version"
    ∷ codes "study F -- --samples 2" ∷ [])
    ≡ replicate 14 (Err Usage)
unfolding line_on_literals
usages = refl

-- words that aren't a command's name, wherever they stand
no_commands : map line (codes "help F"
    ∷ codes "studies F --samples 2"
    ∷ codes "Study F --samples 0"
    ∷ codes "- F"
    ∷ codes "-- -- F"
    ∷ codes "F study --seed x" ∷ [])
    ≡ Err NoCommand
    ∷ Err NoCommand
    ∷ Err NoCommand
    ∷ Err NoCommand
    ∷ Err NoCommand
    ∷ Err NoCommand ∷ []
unfolding line_on_literals
no_commands = refl

-- the place of a trial is a whole number up to 10^18; a trial without samples comes behind it
numbers : map line (codes "trial x --samples 2"
    ∷ codes "trial 1.5"
    ∷ codes "trial 1000000000000000001 --samples 0"
    ∷ codes "trial 1000000000000000000"
    ∷ codes "check 1.5 --samples 2" ∷ [])
    ≡ Err BadNumber
    ∷ Err BadNumber
    ∷ Err BadNumber
    ∷ Err (Missing 0)
    ∷ Err (NotFor 0 Check) ∷ []
unfolding line_on_literals
numbers = refl

-- options that the command doesn't take, whatever their value
others : map line (codes "check F --up-to x"
    ∷ codes "table F --seed 1"
    ∷ codes "index F --seed x"
    ∷ codes "credit F --seed 1 --kind efc"
    ∷ codes "trace F --samples 2"
    ∷ codes "study F --samples 2 --sample 0"
    ∷ codes "trial 7 --samples 2 --result plain"
    ∷ codes "console F --samples 2 --most 3"
    ∷ codes "console F --samples 2 --precision 3" ∷ [])
    ≡ Err (NotFor 13 Check)
    ∷ Err (NotFor 1 Table)
    ∷ Err (NotFor 1 Index)
    ∷ Err (NotFor 1 Credit)
    ∷ Err (NotFor 0 Trace)
    ∷ Err (NotFor 6 Study)
    ∷ Err (NotFor 7 Trial)
    ∷ Err (NotFor 4 Console)
    ∷ Err (NotFor 5 Console) ∷ []
unfolding line_on_literals
others = refl

-- options that the command needs
missing : map line (codes "study F --seed x"
    ∷ codes "trial 7 --workers 4"
    ∷ codes "console F"
    ∷ codes "trace F --seed 2"
    ∷ codes "credit F --measure eue"
    ∷ codes "credit F --kind efc"
    ∷ codes "credit F --kind efc --measure eue"
    ∷ codes "credit F --kind efc --measure eue --capacity 50"
    ∷ codes "credit F --kind efc --measure eue --capacity 50 --failure 0"
    ∷ codes "credit F --kind efc --measure eue --capacity 50 --failure 0 --repair 1" ∷ [])
    ≡ Err (Missing 0)
    ∷ Err (Missing 0)
    ∷ Err (Missing 0)
    ∷ Err (Missing 6)
    ∷ Err (Missing 8)
    ∷ Err (Missing 9)
    ∷ Err (Missing 10)
    ∷ Err (Missing 11)
    ∷ Err (Missing 12)
    ∷ Err (Missing 13) ∷ []
unfolding line_on_literals
missing = refl

-- values that aren't numbers of their kind or lie past an end of their range
bad : map line (codes "study F --samples="
    ∷ codes "study F --samples=-3"
    ∷ codes "study F --samples 2.5"
    ∷ codes "study F --samples 0"
    ∷ codes "study F --samples 1000001"
    ∷ codes "study F --samples 2 --seed 1000000000000000001"
    ∷ codes "trace F --seed x"
    ∷ codes "study F --samples 2 --workers 0"
    ∷ codes "study F --samples 2 --workers 65"
    ∷ codes "study F --samples 2 --block 0"
    ∷ codes "study F --samples 2 --block 10001"
    ∷ codes "study F --samples 2 --most 0"
    ∷ codes "study F --samples 2 --most 1000001"
    ∷ codes "study F --samples 2 --precision 0"
    ∷ codes "study F --samples 2 --precision 1001"
    ∷ codes "trace F --sample 1000000"
    ∷ codes "trace F --sample 0 --result plains"
    ∷ codes "credit F --kind EFC"
    ∷ codes "credit F --kind efc --measure lolh"
    ∷ codes "credit F --kind efc --measure eue --capacity 200001"
    ∷ codes "credit F --kind efc --measure eue --capacity 50 --failure 1.000000001"
    ∷ codes "credit F --kind efc --measure eue --capacity 50 --failure 0 --repair 1.000000001"
    ∷ codes "credit F --kind efc --measure eue --capacity 50 --failure 0.0000000009 --repair 0.0000000009"
    ∷ codes "credit F --kind efc --measure eue --capacity 50 --failure 0 --repair 1 --up-to 200001" ∷ [])
    ≡ Err (Bad 0)
    ∷ Err (Bad 0)
    ∷ Err (Bad 0)
    ∷ Err (Bad 0)
    ∷ Err (Bad 0)
    ∷ Err (Bad 1)
    ∷ Err (Bad 1)
    ∷ Err (Bad 2)
    ∷ Err (Bad 2)
    ∷ Err (Bad 3)
    ∷ Err (Bad 3)
    ∷ Err (Bad 4)
    ∷ Err (Bad 4)
    ∷ Err (Bad 5)
    ∷ Err (Bad 5)
    ∷ Err (Bad 6)
    ∷ Err (Bad 7)
    ∷ Err (Bad 8)
    ∷ Err (Bad 9)
    ∷ Err (Bad 10)
    ∷ Err (Bad 11)
    ∷ Err (Bad 12)
    ∷ Err (Bad 12)
    ∷ Err (Bad 13) ∷ []
unfolding line_on_literals
bad = refl

-- of several faults, the first option's in the order of the table; the most samples come last
in_order : map line (codes "study F --samples 5 --most 4"
    ∷ codes "study F --most 4 --samples 5 --precision 0"
    ∷ codes "study F --most 4 --samples 5 --sample 0"
    ∷ codes "console F --most 3 --samples 0"
    ∷ codes "credit F --up-to x --kind y" ∷ [])
    ≡ Err MostBelowSamples
    ∷ Err (Bad 5)
    ∷ Err (NotFor 6 Study)
    ∷ Err (Bad 0)
    ∷ Err (Bad 8) ∷ []
unfolding line_on_literals
in_order = refl

-- the folder stands anywhere among the options, also behind `--`, and may be or begin with a dash
simple : map line (codes "check F"
    ∷ codes "-- table F"
    ∷ codes "index -- F"
    ∷ codes "check -"
    ∷ codes "table -- -F" ∷ [])
    ≡ Ok (plain Check)
    ∷ Ok (plain Table)
    ∷ Ok (plain Index)
    ∷ Ok (record (plain Check) { place = codes "-" })
    ∷ Ok (record (plain Table) { place = codes "-F" }) ∷ []
unfolding line_on_literals
simple = refl

-- what isn't given has its default; options stand in any order, and `--name=value` is one word
studies : map line (codes "study F --samples 1000000"
    ∷ codes "--samples=3 study F"
    ∷ codes "study --samples 1e3 F"
    ∷ codes "--samples 3 study -- F"
    ∷ codes "study F --precision 1000 --most 1000000 --block 10000 --workers 64 --seed 1000000000000000000 --samples 1"
    ∷ codes "study F --samples 2 --seed 0 --workers 1 --block 1 --most 2 --precision 1"
    ∷ codes "trial 7 --samples 200 --block 7 --workers 4"
    ∷ codes "console F --samples 5 --block 2" ∷ [])
    ≡ Ok (study 1000000)
    ∷ Ok (study 3)
    ∷ Ok (study 1000)
    ∷ Ok (study 3)
    ∷ Ok (record (study 1) { seed = Some 1000000000000000000; workers = Some 64; block = Some 10000; most = Some 1000000; precision = Some 1000 })
    ∷ Ok (record (study 2) { seed = Some 0; block = Some 1; precision = Some 1 })
    ∷ Ok (record (study 200) { command = Trial; place = codes "7"; number = 7; workers = Some 4; block = Some 7 })
    ∷ Ok (record (study 5) { command = Console; block = Some 2; most = None }) ∷ []
unfolding line_on_literals
studies = refl

-- a trace has no samples, and a seed; a recorder has the number of its name
traces : map line (codes "trace F --sample 999999"
    ∷ codes "trace F --sample 0 --result plain"
    ∷ codes "trace F --sample 0 --result shortfall --seed 2"
    ∷ codes "trace F --sample 0 --result storage"
    ∷ codes "trace F --sample 0 --result cut" ∷ [])
    ≡ Ok (record (plain Trace) { seed = Some 1; sample = Some 999999 })
    ∷ Ok (record (plain Trace) { seed = Some 1; sample = Some 0; result = Some 1 })
    ∷ Ok (record (plain Trace) { seed = Some 2; sample = Some 0; result = Some 2 })
    ∷ Ok (record (plain Trace) { seed = Some 1; sample = Some 0; result = Some 3 })
    ∷ Ok (record (plain Trace) { seed = Some 1; sample = Some 0; result = Some 4 }) ∷ []
unfolding line_on_literals
traces = refl

-- a credit's probabilities are billionths, rounded down
credits : map line (codes "credit F --kind efc --measure eue --capacity 50 --failure 0.25 --repair 0.75 --up-to 100"
    ∷ codes "credit F --kind elcc --measure lole --capacity 200000 --failure 1 --repair 0 --up-to 200000"
    ∷ codes "credit F --kind efc --measure eue --capacity 0 --failure 0 --repair 0.0000000019 --up-to 0" ∷ [])
    ≡ Ok (record (plain Credit) { kind = Some Efc; measure = Some Eue; capacity = Some 50; failure = Some 250000000; repair = Some 750000000; up_to = Some 100 })
    ∷ Ok (record (plain Credit) { kind = Some Elcc; measure = Some Lole; capacity = Some 200000; failure = Some 1000000000; repair = Some 0; up_to = Some 200000 })
    ∷ Ok (record (plain Credit) { kind = Some Efc; measure = Some Eue; capacity = Some 0; failure = Some 0; repair = Some 1; up_to = Some 0 }) ∷ []
unfolding line_on_literals
credits = refl
