use Rattle.std.proofs.Common.{◌≡◌, ◌*◌, length, arith, ap, ◌∙◌}
use Rattle.sample_streams.specs.Draw.{Draws, behind}
use Rattle.sample_streams.proofs.HourLaws.{filled, written_over}
use Rattle.sample_streams.proofs.hour_draws.HourDraws.new.Goals as goal

pub invariant_of-result : goal.invariant_of-result
invariant_of-result c =
    let stream = c.new-stream.result in
    let words = c.next_draws.new.words in
    let size : length words ≡ 16 * c.args.components = omega (arith, c.in_ok-words.ensures.len) in
    let same : length c.deref_mut.result.now ≡ length words = omega arith in
    let at : stream.place ≡ 0 * c.args.components = omega (arith, ap (λ (d : Draws). d.place) c.new-stream.ensures) in
    let next = c.next_draws.ensures.next ∙ ap (λ n. behind n stream) same in
    rw (written_over c.in_ok-words.words.items words c.in_ok-words.words.len (omega arith) (omega arith))
    (filled stream c.next_draws.new.self c.args.components 0 words (ap (λ (d : Draws). d.components) c.new-stream.ensures) at
    (omega arith) c.ranges.components.fits size
    (λ k l. c.next_draws.ensures.words k (omega arith)) (λ k l. c.next_draws.ensures.range k (omega arith)) next)
