use Rattle.std.proofs.Common.{arith}
use Rattle.sample_streams.proofs.WordLaws.{next-parts}
use Rattle.sample_streams.proofs.words.next_lot.Goals as goal

pub returns-clause-words : goal.returns-clause-words
returns-clause-words c =
    next-parts c.args.generator.now c.next_sixteen.new.generator c.next_sixteen-2.new.generator c.next_sixteen-3.new.generator 16 _
    c.next_sixteen.new.words c.next_sixteen-2.new.words c.next_sixteen-3.new.words c.next_sixteen-4.new.words
    c.next_sixteen.ensures.next c.next_sixteen-2.ensures.next c.next_sixteen-3.ensures.next (omega arith) (omega arith) (omega arith) (omega arith)
    c.next_sixteen.ensures.words c.next_sixteen-2.ensures.words c.next_sixteen-3.ensures.words c.next_sixteen-4.ensures.words
