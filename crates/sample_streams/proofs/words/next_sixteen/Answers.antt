use Rattle.std.proofs.Common.{arith}
use Rattle.sample_streams.proofs.WordLaws.{next-parts}
use Rattle.sample_streams.proofs.words.next_sixteen.Goals as goal

pub returns-clause-words : goal.returns-clause-words
returns-clause-words c =
    next-parts c.args.generator.now c.next_four.new.generator c.next_four-2.new.generator c.next_four-3.new.generator 4 _
    c.next_four.new.words c.next_four-2.new.words c.next_four-3.new.words c.next_four-4.new.words
    c.next_four.ensures.next c.next_four-2.ensures.next c.next_four-3.ensures.next (omega arith) (omega arith) (omega arith) (omega arith)
    c.next_four.ensures.words c.next_four-2.ensures.words c.next_four-3.ensures.words c.next_four-4.ensures.words
