use Rattle.std.proofs.Common.{arith}
use Rattle.turn_book.proofs.WordLemmas.{word_is, byte_is}
use Rattle.turn_book.proofs.words.word_of.Goals as goal

pub returns : goal.returns
returns c = omega (arith, word_is c.args.gate, byte_is c.args.gate.sealed, byte_is c.args.gate.cancelled)
