use Rattle.std.proofs.Common.{◌≡◌, ◌+◌, ◌*◌, ◌<◌, ◌^◌, length, arith, ap, ◌∙◌}
use Rattle.sample_streams.specs.Draw.{behind}
use Rattle.sample_streams.specs.HourDraws.{DrawnHour}
use Rattle.sample_streams.proofs.HourLaws.{filled, written_over}
use Rattle.sample_streams.proofs.hour_draws.HourDraws.step.Goals as goal

pub invariant_of-self-else-self-lt-HOURS : goal.invariant_of-self-else-self-lt-HOURS
invariant_of-self-else-self-lt-HOURS c =
    let s = c.self.inside in
    let words = c.next_draws.new.words in
    let size : length words ≡ 16 * s.components = omega (arith, c.self.invariant.size) in
    let same : length c.deref_mut.result.now ≡ length words = omega arith in
    let hour_is = ap (λ (d : DrawnHour). d.hour) c.self.view_is in
    let soon : s.first + 16 < 2 ^ 32 = omega (arith, hour_is, c.self.invariant.among) in
    let next = c.next_draws.ensures.next ∙ ap (λ n. behind n s.stream) same in
    rw (written_over s.words.items words s.words.len (omega arith) (omega arith))
    (filled s.stream c.next_draws.new.self s.components (s.first + 16) words c.self.invariant.count c.self.invariant.place
    soon (omega arith) size
    (λ k l. c.next_draws.ensures.words k (omega arith)) (λ k l. c.next_draws.ensures.range k (omega arith)) next)
