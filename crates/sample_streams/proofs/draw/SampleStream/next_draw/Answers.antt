use Rattle.std.proofs.Common.{◌+◌, ◌*◌, ◌/◌, ◌%◌, sym, ap, ◌∙◌}
use Rattle.std.proofs.lemmas.Nat.{div-add-mod'}
use Rattle.rand_chacha.specs.ChaCha.{word_at, key_of}
use Rattle.sample_streams.specs.Draw.{draw, Draws, key_bytes}
use Rattle.sample_streams.proofs.draw.SampleStream.next_draw.Goals as goal

pub returns-clause-word : goal.returns-clause-word
unfolding draw
returns-clause-word c =
    let w = c.self.inside.words in
    let n = c.self.inside.components in
    ap (λ (p : _). p.0) c.next_word.ensures
    ∙ ap (λ k. word_at 4 k w.stream w.word_pos) c.self.invariant.0
    ∙ ap (λ p. word_at 4 (key_of (key_bytes c.self.inside.seed)) w.stream p) (sym (div-add-mod' w.word_pos n))
    ∙ ap (λ (d : Draws). word_at 4 (key_of (key_bytes d.seed)) d.sample (d.place / d.components * d.components + d.place % d.components)) c.self.view_is
