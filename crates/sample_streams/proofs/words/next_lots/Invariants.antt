use Rattle.std.proofs.Common.{length, ◌+◌, ◌-◌, ◌*◌, ◌%◌, ◌^◌, ◌≡◌, ◌≤◌}
use Rattle.sample_streams.specs.Words.{AreNext, passed}
use Rattle.sample_streams.proofs.words.next_lots.Given as goal

-- the generator stands behind the words that are drawn, at the start of the block
abbrev pub invariant-loop-drawn : goal.invariant-loop-drawn
invariant-loop-drawn l =
    let first = l.initial.generator in
    record {
      room : l.drawn ≤ length l.words;
      block : l.block * 16 ≡ (first.word_pos + l.drawn) % 2 ^ 68;
      generator : l.generator ≡ passed l.drawn first;
      words : AreNext first l.drawn l.words;
    }

abbrev pub decreases-loop-drawn : goal.decreases-loop-drawn
decreases-loop-drawn l = length l.words + 1 - l.drawn
