use Rattle.std.proofs.Common.{◌≡◌, ◌*◌, length, arith, ap, ◌∙◌}
use Rattle.sample_streams.specs.Draw.{Draws, behind}
use Rattle.sample_streams.proofs.HourLaws.{filled, written_over}
use Rattle.sample_streams.proofs.hour_draws.HourDraws.start.Goals as goal

pub invariant_of-self : goal.invariant_of-self
invariant_of-self c =
    let s = c.self.inside in
    let stream = c.start.new.self in
    let words = c.next_draws.new.words in
    let size : length words ≡ 16 * s.components = omega (arith, c.self.invariant.size) in
    let at : stream.place ≡ 0 * s.components = omega (arith, ap (λ (d : Draws). d.place) c.start.ensures) in
    let same : length c.deref_mut.result.now ≡ length words = omega arith in
    let next = c.next_draws.ensures.next ∙ ap (λ n. behind n stream) same in
    rw (written_over s.words.items words s.words.len (omega arith) (omega arith))
    (filled stream c.next_draws.new.self s.components 0 words
    (ap (λ (d : Draws). d.components) c.start.ensures ∙ c.self.invariant.count) at
    (omega arith) (omega arith) size
    (λ k l. c.next_draws.ensures.words k (omega arith)) (λ k l. c.next_draws.ensures.range k (omega arith)) next)
