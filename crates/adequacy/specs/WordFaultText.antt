-- The lines of faults in the words. 10 is the line feed.
use Rattle.std.specs.Prelude.{ℕ, List, [], ◌∷◌, ◌++◌, codes, slice_index_or}
use Rattle.adequacy.specs.CommandWords.{command_text}
use Rattle.adequacy.specs.OptionTable.{option_names}
use Rattle.adequacy.specs.declared.words.fault.WordFault.{WordFault}
use Rattle.adequacy.specs.declared.words.fault.WordFault.TheVariants.{Usage, NoCommand, BadNumber, NotFor, Missing, Bad, MostBelowSamples}

-- the name of an option, by its place in the table, and nothing past the last
abbrev pub option_text : ℕ → List ℕ
option_text option = slice_index_or option_names option []

-- what an option is
abbrev pub option_line : ℕ → List ℕ → List ℕ
option_line option what = codes "words: --" ++ option_text option ++ what

-- the line of a fault
abbrev pub word_fault_text : WordFault → List ℕ
word_fault_text Usage = codes "words: usage" ++ 10 ∷ []
word_fault_text NoCommand = codes "words: no such command" ++ 10 ∷ []
word_fault_text BadNumber = codes "words: bad number" ++ 10 ∷ []
word_fault_text (NotFor option command) = option_line option (codes " is not for ") ++ command_text command ++ 10 ∷ []
word_fault_text (Missing option) = option_line option (codes " is missing" ++ 10 ∷ [])
word_fault_text (Bad option) = option_line option (codes " is bad" ++ 10 ∷ [])
word_fault_text MostBelowSamples = codes "words: --most is below --samples" ++ 10 ∷ []
