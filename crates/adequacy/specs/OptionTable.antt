-- The table of options in its order: which commands take an option, how its value is read, the value's bounds, and
-- what stands where it is absent.
use Rattle.std.specs.Prelude.{ℕ, Bool, true, false, not, ◌&&◌, ◌==◌, nat_le, List, [], ◌∷◌, codes, Option, None, Some, if◌then◌else◌}
use Rattle.ra_base.specs.declared.limits.TheConstants.{BILLION, MOST_BLOCK, MOST_POOLED_MW, MOST_SAMPLES, MOST_WORKERS}
use Rattle.adequacy.specs.CommandWords.{is_campaign, is_credit, is_simulation, is_study, is_trace}
use Rattle.adequacy.specs.declared.words.command.Command.{Command}
use Rattle.adequacy.specs.declared.words.options.TheConstants.{DEFAULT_BLOCK, DEFAULT_SEED, DEFAULT_WORKERS, LAST_RECORDER, LAST_SAMPLE, MOST_PRECISION, MOST_SEED}
use Rattle.adequacy.specs.declared.words.options.OptionRow.{OptionRow}
use Rattle.adequacy.specs.declared.words.options.Takers.{Takers}
use Rattle.adequacy.specs.declared.words.options.Takers.TheVariants.{Campaigns, Simulations, Studies, Trace, Credit}
use Rattle.adequacy.specs.declared.words.options.Reading.TheVariants.{Whole, Billionths, Recorder}
use Rattle.adequacy.specs.declared.words.options.Absent.{Absent}
use Rattle.adequacy.specs.declared.words.options.Absent.TheVariants.{Missing, Default, Nothing}

-- the names of the options
abbrev pub option_names : List (List ℕ)
option_names =
    codes "samples" ∷ codes "seed" ∷ codes "workers" ∷ codes "block" ∷ codes "most" ∷ codes "precision"
    ∷ codes "sample" ∷ codes "result"
    ∷ codes "kind" ∷ codes "measure" ∷ codes "capacity" ∷ codes "failure" ∷ codes "repair" ∷ codes "up-to" ∷ []

-- the commands that take an option
abbrev pub takes : Takers → Command → Bool
takes Campaigns = is_campaign
takes Simulations = is_simulation
takes Studies = is_study
takes Trace = is_trace
takes Credit = is_credit

abbrev pub samples_row : OptionRow
samples_row = record { number = 0; takers = Campaigns; reading = Whole; least = 1; most = MOST_SAMPLES; absent = Missing }

abbrev pub seed_row : OptionRow
seed_row = record { number = 1; takers = Simulations; reading = Whole; least = 0; most = MOST_SEED; absent = Default DEFAULT_SEED }

abbrev pub workers_row : OptionRow
workers_row = record { number = 2; takers = Campaigns; reading = Whole; least = 1; most = MOST_WORKERS; absent = Default DEFAULT_WORKERS }

abbrev pub block_row : OptionRow
block_row = record { number = 3; takers = Campaigns; reading = Whole; least = 1; most = MOST_BLOCK; absent = Default DEFAULT_BLOCK }

-- the most samples are the samples where the option is absent
abbrev pub default_of : Option ℕ → Absent
default_of (Some value) = Default value
default_of None = Missing

abbrev pub most_row : Option ℕ → OptionRow
most_row samples = record { number = 4; takers = Studies; reading = Whole; least = 1; most = MOST_SAMPLES; absent = default_of samples }

abbrev pub precision_row : OptionRow
precision_row = record { number = 5; takers = Studies; reading = Whole; least = 1; most = MOST_PRECISION; absent = Nothing }

abbrev pub sample_row : OptionRow
sample_row = record { number = 6; takers = Trace; reading = Whole; least = 0; most = LAST_SAMPLE; absent = Missing }

abbrev pub result_row : OptionRow
result_row = record { number = 7; takers = Trace; reading = Recorder; least = 1; most = LAST_RECORDER; absent = Nothing }

-- the kind is the option 8 and the measure the option 9: their values are names
abbrev pub kind_number : ℕ
kind_number = 8

abbrev pub measure_number : ℕ
measure_number = 9

abbrev pub capacity_row : OptionRow
capacity_row = record { number = 10; takers = Credit; reading = Whole; least = 0; most = MOST_POOLED_MW; absent = Missing }

abbrev pub failure_row : OptionRow
failure_row = record { number = 11; takers = Credit; reading = Billionths; least = 0; most = BILLION; absent = Missing }

-- the least repair probability: a unit that never fails must be one that is repaired
abbrev pub least_repair : Option ℕ → ℕ
least_repair (Some failure) = if failure == 0 then 1 else 0
least_repair None = 0

abbrev pub repair_row : Option ℕ → OptionRow
repair_row failure = record { number = 12; takers = Credit; reading = Billionths; least = least_repair failure; most = BILLION; absent = Missing }

abbrev pub up_to_row : OptionRow
up_to_row = record { number = 13; takers = Credit; reading = Whole; least = 0; most = MOST_POOLED_MW; absent = Missing }

-- whether a value lies between the bounds of a row
abbrev pub is_within : OptionRow → ℕ → Bool
is_within row value = nat_le row.least value && nat_le value row.most

-- whether there is a value wherever the command takes the option
abbrev pub is_needed : Absent → Bool
is_needed Nothing = false
is_needed _ = true

-- whether a value is as the row says: none where the command doesn't take the option, else one between the bounds, or
-- none where the option may be absent
abbrev pub fits : Command → OptionRow → Option ℕ → Bool
fits command row None = not (takes row.takers command && is_needed row.absent)
fits command row (Some value) = takes row.takers command && is_within row value

-- a value that stands where the option is absent is one between the bounds
abbrev pub fits_absent : OptionRow → Absent → Bool
fits_absent row (Default value) = is_within row value
fits_absent row _ = true

abbrev pub has_fit_default : OptionRow → Bool
has_fit_default row = fits_absent row row.absent
