use Rattle.std.proofs.Common.{◌≡◌}
use Rattle.sample_streams.specs.Words.{AreNext, passed}
use Rattle.sample_streams.proofs.words.next_words.Given as goal

-- the words behind the lots are drawn one by one
abbrev pub invariant-loop-word : goal.invariant-loop-word
invariant-loop-word l = record {
  generator : l.generator ≡ passed l.word-index l.initial.generator;
  words : AreNext l.initial.generator l.word-index l.word-items;
}
