-- Words that give no line.
use Rattle.std.proofs.Common.{◌≡◌, ℕ, List, Err}
use Rattle.adequacy.specs.Endings.{IsAsked, failure_of_words}
use Rattle.adequacy.specs.Words.{line_of, IsWordsAnswer}
use Rattle.adequacy.specs.declared.words.fault.WordsError.{WordsError}
use Rattle.adequacy.specs.declared.words.fault.WordsError.TheVariants as error

pub asked-error : (words : List (List ℕ)) (e : WordsError) → IsWordsAnswer words (Err e) → IsAsked (line_of words) (Err (failure_of_words e))
asked-error words (error.Words fault) there = there
asked-error words error.OutOfMemory there = tt
