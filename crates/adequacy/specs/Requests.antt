-- What a line asks for, by its command. The options that the command needs are there in every line.
use Rattle.std.specs.Prelude.{◌≡◌, ◌≤◌, Some, unwrap_or, IfSome}
use Rattle.ra_base.specs.declared.limits.TheConstants.{MOST_BLOCK, MOST_POOLED_MW, MOST_SAMPLES, MOST_WORKERS}
use Rattle.analytic_index.specs.Pool.{IsNewUnit}
use Rattle.capacity_credit.specs.declared.questions.Kind.TheVariants.{Efc}
use Rattle.capacity_credit.specs.declared.questions.Measure.TheVariants.{Lole}
use Rattle.adequacy.specs.LineParts.{LineParts}
use Rattle.adequacy.specs.declared.words.command.Command.{Command}
use Rattle.adequacy.specs.declared.words.command.Command.TheVariants as command
use Rattle.adequacy.specs.declared.words.options.TheConstants.{LAST_RECORDER, LAST_SAMPLE, MOST_PRECISION, MOST_SEED}
use Rattle.adequacy.specs.declared.words.request.StudyTerms.{StudyTerms}
use Rattle.adequacy.specs.declared.words.request.ConsoleTerms.{ConsoleTerms}
use Rattle.adequacy.specs.declared.words.request.TraceTerms.{TraceTerms}
use Rattle.adequacy.specs.declared.words.request.CreditTerms.{CreditTerms}
use Rattle.adequacy.specs.declared.words.request.Request.{Request}
use Rattle.adequacy.specs.declared.words.request.Request.TheVariants.{Check, Table, Index, Credit, Trace, Study, Trial, Console}

abbrev pub study_terms : LineParts → StudyTerms
study_terms line = record {
  samples = unwrap_or line.samples 0;
  seed = unwrap_or line.seed 0;
  workers = unwrap_or line.workers 0;
  block = unwrap_or line.block 0;
  most = unwrap_or line.most 0;
  precision = line.precision;
}

abbrev pub console_terms : LineParts → ConsoleTerms
console_terms line = record {
  samples = unwrap_or line.samples 0;
  seed = unwrap_or line.seed 0;
  workers = unwrap_or line.workers 0;
  block = unwrap_or line.block 0;
}

abbrev pub trace_terms : LineParts → TraceTerms
trace_terms line = record { sample = unwrap_or line.sample 0; seed = unwrap_or line.seed 0; recorder = line.result }

abbrev pub credit_terms : LineParts → CreditTerms
credit_terms line = record {
  kind = unwrap_or line.kind Efc;
  measure = unwrap_or line.measure Lole;
  unit = record {
    capacity = unwrap_or line.capacity 0;
    rates = record { f = unwrap_or line.failure 0; r = unwrap_or line.repair 0 };
  };
  most = unwrap_or line.up_to 0;
}

-- what a line asks for, by its command
abbrev pub request_by : Command → LineParts → Request
request_by command.Check line = Check
request_by command.Table line = Table
request_by command.Index line = Index
request_by command.Credit line = Credit (credit_terms line)
request_by command.Trace line = Trace (trace_terms line)
request_by command.Study line = Study (study_terms line)
request_by command.Trial line = Trial line.number (study_terms line)
request_by command.Console line = Console (console_terms line)

abbrev pub request_of : LineParts → Request
request_of line = request_by line.command line

-- the terms are the values of the line's options, in their ranges
pub record AreStudyTerms (line : LineParts) (terms : StudyTerms) : Type 0 where
  pub samples : line.samples ≡ Some terms.samples
  pub some : 1 ≤ terms.samples
  pub few : terms.samples ≤ MOST_SAMPLES
  pub seed : line.seed ≡ Some terms.seed
  pub seed_range : terms.seed ≤ MOST_SEED
  pub workers : line.workers ≡ Some terms.workers
  pub some_workers : 1 ≤ terms.workers
  pub few_workers : terms.workers ≤ MOST_WORKERS
  pub block : line.block ≡ Some terms.block
  pub some_block : 1 ≤ terms.block
  pub small_block : terms.block ≤ MOST_BLOCK
  pub most : line.most ≡ Some terms.most
  pub enough : terms.samples ≤ terms.most
  pub most_range : terms.most ≤ MOST_SAMPLES
  pub precision : line.precision ≡ terms.precision
  pub precision_range : IfSome terms.precision (λ precision. (1 ≤ precision) × (precision ≤ MOST_PRECISION))

pub record AreConsoleTerms (line : LineParts) (terms : ConsoleTerms) : Type 0 where
  pub samples : line.samples ≡ Some terms.samples
  pub some : 1 ≤ terms.samples
  pub few : terms.samples ≤ MOST_SAMPLES
  pub seed : line.seed ≡ Some terms.seed
  pub seed_range : terms.seed ≤ MOST_SEED
  pub workers : line.workers ≡ Some terms.workers
  pub some_workers : 1 ≤ terms.workers
  pub few_workers : terms.workers ≤ MOST_WORKERS
  pub block : line.block ≡ Some terms.block
  pub some_block : 1 ≤ terms.block
  pub small_block : terms.block ≤ MOST_BLOCK

pub record AreTraceTerms (line : LineParts) (terms : TraceTerms) : Type 0 where
  pub sample : line.sample ≡ Some terms.sample
  pub sample_range : terms.sample ≤ LAST_SAMPLE
  pub seed : line.seed ≡ Some terms.seed
  pub seed_range : terms.seed ≤ MOST_SEED
  pub recorder : line.result ≡ terms.recorder
  pub recorder_range : IfSome terms.recorder (λ recorder. (1 ≤ recorder) × (recorder ≤ LAST_RECORDER))

pub record AreCreditTerms (line : LineParts) (terms : CreditTerms) : Type 0 where
  pub kind : line.kind ≡ Some terms.kind
  pub measure : line.measure ≡ Some terms.measure
  pub capacity : line.capacity ≡ Some terms.unit.capacity
  pub failure : line.failure ≡ Some terms.unit.rates.f
  pub repair : line.repair ≡ Some terms.unit.rates.r
  pub up_to : line.up_to ≡ Some terms.most
  pub unit_range : IsNewUnit terms.unit
  pub most_range : terms.most ≤ MOST_POOLED_MW

-- a request has the values of the line's options
abbrev pub IsRequestOf : LineParts → Request → Type 0
IsRequestOf line Check = Unit {0}
IsRequestOf line Table = Unit {0}
IsRequestOf line Index = Unit {0}
IsRequestOf line (Credit terms) = AreCreditTerms line terms
IsRequestOf line (Trace terms) = AreTraceTerms line terms
IsRequestOf line (Study terms) = AreStudyTerms line terms
IsRequestOf line (Trial number terms) = (number ≡ line.number) × (number ≤ MOST_SEED) × AreStudyTerms line terms
IsRequestOf line (Console terms) = AreConsoleTerms line terms
