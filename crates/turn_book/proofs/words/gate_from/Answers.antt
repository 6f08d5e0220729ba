use Rattle.turn_book.proofs.WordLemmas.{gate_back}
use Rattle.turn_book.proofs.words.gate_from.Goals as goal

pub returns : goal.returns
returns c = λ gate is word. gate_back c.args.word gate is word
