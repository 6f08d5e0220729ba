-- The line that words spell.
use Rattle.std.specs.Prelude.{◌≡◌, ℕ, Bool, true, false, ◌==◌, nat_le, nat_lt, List, Option, Some, is_some}
use Rattle.capacity_credit.specs.declared.questions.Kind.{Kind}
use Rattle.capacity_credit.specs.declared.questions.Measure.{Measure}
use Rattle.adequacy.specs.CommandWords.{is_credit}
use Rattle.adequacy.specs.OptionTable.{fits, samples_row, seed_row, workers_row, block_row, most_row, precision_row, sample_row, result_row, capacity_row, failure_row, repair_row, up_to_row}
use Rattle.adequacy.specs.declared.words.command.Command.{Command}
use Rattle.adequacy.specs.declared.words.command.Command.TheVariants.{Trial}
use Rattle.adequacy.specs.declared.words.options.TheConstants.{MOST_SEED}

-- a command, its place, the number of the system to make where there is one, and a field for each option
pub record LineParts : Type 0 where
  pub command : Command
  pub place : List ℕ
  pub number : ℕ
  pub samples : Option ℕ
  pub seed : Option ℕ
  pub workers : Option ℕ
  pub block : Option ℕ
  pub most : Option ℕ
  pub precision : Option ℕ
  pub sample : Option ℕ
  pub result : Option ℕ
  pub kind : Option Kind
  pub measure : Option Measure
  pub capacity : Option ℕ
  pub failure : Option ℕ
  pub repair : Option ℕ
  pub up_to : Option ℕ

-- whether there are fewer of the first than of the second, where there are both
abbrev pub is_below : Option ℕ → Option ℕ → Bool
is_below (Some few) (Some many) = nat_lt few many
is_below _ _ = false

-- the number of a made system; other commands have 0
abbrev pub fits_number : Command → ℕ → Bool
fits_number Trial number = nat_le number MOST_SEED
fits_number command number = number == 0

-- each field is as its option's row says, and the most samples aren't fewer than the samples
pub record IsLine (line : LineParts) : Type 0 where
  pub number : fits_number line.command line.number ≡ true
  pub samples : fits line.command samples_row line.samples ≡ true
  pub seed : fits line.command seed_row line.seed ≡ true
  pub workers : fits line.command workers_row line.workers ≡ true
  pub block : fits line.command block_row line.block ≡ true
  pub most : fits line.command (most_row line.samples) line.most ≡ true
  pub enough : is_below line.most line.samples ≡ false
  pub precision : fits line.command precision_row line.precision ≡ true
  pub sample : fits line.command sample_row line.sample ≡ true
  pub result : fits line.command result_row line.result ≡ true
  pub kind : is_some line.kind ≡ is_credit line.command
  pub measure : is_some line.measure ≡ is_credit line.command
  pub capacity : fits line.command capacity_row line.capacity ≡ true
  pub failure : fits line.command failure_row line.failure ≡ true
  pub repair : fits line.command (repair_row line.failure) line.repair ≡ true
  pub up_to : fits line.command up_to_row line.up_to ≡ true
