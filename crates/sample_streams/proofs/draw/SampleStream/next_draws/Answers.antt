use Rattle.std.proofs.Common.{◌+◌, ◌%◌, ◌^◌, length, sym, ap, ◌∙◌}
use Rattle.std.proofs.lemmas.Nat.{div-add-mod'}
use Rattle.rand_chacha.specs.ChaCha.{ChaCha, word_at, key_of}
use Rattle.sample_streams.specs.Draw.{Draws, draw, key_bytes, next_of, behind}
use Rattle.sample_streams.proofs.draw.SampleStream.next_draws.Goals as goal

pub returns-clause-words : goal.returns-clause-words
unfolding draw
returns-clause-words c = λ k l.
    let first = c.self.inside.words in
    let n = c.self.inside.components in
    let place = (first.word_pos + k) % 2 ^ 68 in
    c.next_words.ensures.words.each k l
    ∙ ap (λ (g : ChaCha). word_at 4 g.key g.stream ((g.word_pos + k) % 2 ^ 68)) c.replace-taken.ensures.value
    ∙ ap (λ key. word_at 4 key first.stream place) c.self.invariant.0
    ∙ ap (λ p. word_at 4 (key_of (key_bytes c.self.inside.seed)) first.stream p) (sym (div-add-mod' place n))
    ∙ ap (λ (d : Draws). next_of (behind k d)) c.self.view_is

pub returns-clause-next : goal.returns-clause-next
returns-clause-next c =
    let s = c.self.inside in
    let count = length c.args.words.now in
    ap (λ (g : ChaCha). record { seed = s.seed; components = s.components; sample = g.stream; place = g.word_pos }) c.next_words.ensures.next
    ∙ ap (λ (g : ChaCha). record { seed = s.seed; components = s.components; sample = g.stream; place = (g.word_pos + count) % 2 ^ 68 }) c.replace-taken.ensures.value
    ∙ ap (λ (d : Draws). behind count d) c.self.view_is
