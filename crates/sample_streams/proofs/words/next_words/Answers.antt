use Rattle.std.proofs.Common.{◌≡◌, ◌+◌, ◌^◌, ◌<◌, length, arith, ap, ◌∙◌}
use Rattle.rand_chacha.specs.ChaCha.{ChaCha}
use Rattle.sample_streams.specs.Words.{passed}
use Rattle.sample_streams.proofs.WordLaws.{passed-none, passed-more, next-none, next-one, next-more}
use Rattle.sample_streams.proofs.words.next_words.Goals as goal

pub loop-word-init : goal.loop-word-init
loop-word-init c =
    let at = c.next_lots-drawn.new.generator in
    let within : at.word_pos < 2 ^ 68 = omega (arith, ap (λ (g : ChaCha). g.word_pos) c.next_lots-drawn.ensures.next) in
    record { generator = passed-none at within; words = next-none at _ }

pub loop-word-preserved : goal.loop-word-preserved
loop-word-preserved c =
    let l = c.loop-word in
    let at = c.next_lots-drawn.new.generator in
    record {
      generator = passed-more at l.generator c.next_word.new.self l.word-index 1 l.invariant.generator (ap (λ (p : _). p.1) c.next_word.ensures);
      words = next-one at l.generator l.word-index c.next_word.result l.word-items l.invariant.generator (omega arith)
          (ap (λ (p : _). p.0) c.next_word.ensures) c.next_word.type_inv l.invariant.words;
    }

pub returns-clause-words : goal.returns-clause-words
returns-clause-words c =
    let g = c.args.generator.now in
    let lots = c.next_lots-drawn in
    let last = c.loop-word in
    let all : lots.result + last.word-index ≡ length c.args.words.now = omega (arith, lots.ensures.room) in
    rw (← all)
    (next-more g lots.new.generator lots.result last.word-index _ lots.new.words last.word-items lots.ensures.next (omega (arith, lots.ensures.room)) (omega arith)
    lots.ensures.words last.invariant.words)

pub returns-clause-next : goal.returns-clause-next
returns-clause-next c =
    let g = c.args.generator.now in
    let lots = c.next_lots-drawn in
    let last = c.loop-word in
    let all : lots.result + last.word-index ≡ length c.args.words.now = omega (arith, lots.ensures.room) in
    passed-more g lots.new.generator last.generator lots.result last.word-index lots.ensures.next last.invariant.generator ∙ ap (λ n. passed n g) all
