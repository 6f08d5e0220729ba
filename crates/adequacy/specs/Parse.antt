-- What `clap` makes of words of the form.
use Rattle.std.specs.Prelude.{◌≡◌, List, [], Result, Ok, Err}
use Rattle.clap.specs.Words.{Text, fault_of, found_of, matches_of, rows_of}
use Rattle.clap.specs.declared.error.kind.ErrorKind.{ErrorKind}
use Rattle.clap.specs.declared.error.kind.ErrorKind.TheVariants as kind
use Rattle.clap.specs.declared.parser.matches.ArgMatches.{ArgMatches}
use Rattle.adequacy.specs.Words.{form}
use Rattle.adequacy.specs.declared.words.fault.WordFault.TheVariants.{Usage}
use Rattle.adequacy.specs.declared.words.fault.WordsError.{WordsError}
use Rattle.adequacy.specs.declared.words.fault.WordsError.TheVariants.{Words, OutOfMemory}

-- every refusal but want of memory is a fault of usage
abbrev pub refusal_of : ErrorKind → WordsError
refusal_of kind.OutOfMemory = OutOfMemory
refusal_of _ = Words Usage

-- words that are taken have the rows of their matches; words that are refused, but for want of memory, have a fault
pub record IsTaken (words : List Text) (matches : ArgMatches) : Type 0 where
  pub faultless : fault_of form words ≡ []
  pub rows : rows_of (found_of matches) ≡ matches_of form words

abbrev pub IsParse : List Text → Result ArgMatches WordsError → Type 0
IsParse words (Ok matches) = IsTaken words matches
IsParse words (Err (Words fault)) = (fault ≡ Usage) × (fault_of form words ≡ [] → ⊥)
IsParse words (Err OutOfMemory) = Unit {0}
