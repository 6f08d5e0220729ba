-- What holds of the options that were read: each is as its row says.
use Rattle.std.specs.Prelude.{◌≡◌, true, is_some}
use Rattle.adequacy.specs.CommandWords.{is_credit}
use Rattle.adequacy.specs.OptionTable.{fits, samples_row, seed_row, workers_row, block_row, most_row, precision_row, sample_row, result_row, capacity_row, failure_row, repair_row, up_to_row}
use Rattle.adequacy.specs.declared.words.command.Command.{Command}
use Rattle.adequacy.specs.declared.words.values.RunOptions.{RunOptions}
use Rattle.adequacy.specs.declared.words.values.TraceOptions.{TraceOptions}
use Rattle.adequacy.specs.declared.words.values.CreditOptions.{CreditOptions}

pub record AreRunOptions (command : Command) (options : RunOptions) : Type 0 where
  pub samples : fits command samples_row options.samples ≡ true
  pub seed : fits command seed_row options.seed ≡ true
  pub workers : fits command workers_row options.workers ≡ true
  pub block : fits command block_row options.block ≡ true
  pub most : fits command (most_row options.samples) options.most ≡ true
  pub precision : fits command precision_row options.precision ≡ true

pub record AreTraceOptions (command : Command) (options : TraceOptions) : Type 0 where
  pub sample : fits command sample_row options.sample ≡ true
  pub result : fits command result_row options.result ≡ true

pub record AreCreditOptions (command : Command) (options : CreditOptions) : Type 0 where
  pub kind : is_some options.kind ≡ is_credit command
  pub measure : is_some options.measure ≡ is_credit command
  pub capacity : fits command capacity_row options.capacity ≡ true
  pub failure : fits command failure_row options.failure ≡ true
  pub repair : fits command (repair_row options.failure) options.repair ≡ true
  pub up_to : fits command up_to_row options.up_to ≡ true
