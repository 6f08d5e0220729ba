use Rattle.std.proofs.Common.{◌≡◌, ◌*◌, ◌%◌, ◌^◌, ap, ◌∙◌, arith}
use Rattle.std.proofs.Math.Nat.{mod-eq_of_lt}
use Rattle.rand_chacha.specs.ChaCha.{ChaCha}
use Rattle.sample_streams.specs.Words.{passed}
use Rattle.sample_streams.proofs.WordLaws.{passed-none, passed-more, next-none, next-more, room-behind, block-behind}
use Rattle.sample_streams.proofs.words.next_lots.Goals as goal

pub loop-drawn-init : goal.loop-drawn-init
loop-drawn-init c = record {
  room = omega arith;
  block = omega (arith, c.get_word_pos-place.ensures.value, c.if-place-ne0.false);
  generator = passed-none c.args.generator.now c.requires;
  words = next-none c.args.generator.now c.args.words.now;
}

pub loop-drawn-preserved : goal.loop-drawn-preserved
loop-drawn-preserved c =
    let first = c.args.generator.now in
    let l = c.loop-drawn in
    let so_far = l.invariant in
    -- it is set to the place where it stands
    let place = ap (λ b. b * 16 % 2 ^ 68) c.from.ensures ∙ mod-eq_of_lt (omega (arith, so_far.block)) ∙ so_far.block in
    let at : c.set_word_pos.new.self ≡ passed l.drawn first =
    c.set_word_pos.ensures
    ∙ ap (λ (g : ChaCha). record g { word_pos = c.from.result * 16 % 2 ^ 68 }) so_far.generator
    ∙ ap (λ p. record first { word_pos = p }) place in
    record {
      room = room-behind l.drawn 64 _ l.words c.next_lot.new.words so_far.room (omega arith);
      block = block-behind l.block first.word_pos l.drawn so_far.block;
      generator = passed-more first c.set_word_pos.new.self c.next_lot.new.generator l.drawn 64 at c.next_lot.ensures.next;
      words = next-more first c.set_word_pos.new.self l.drawn 64 _ l.words c.next_lot.new.words at so_far.room (omega arith) so_far.words c.next_lot.ensures.words;
    }
