use Rattle.std.proofs.Common.{ℕ, ◌+◌, ◌-◌, ◌*◌, ◌≤◌, ◌<◌, arith, ap, get_or-drop, get_or-take}
use Rattle.std.proofs.lemmas.Nat.{mul-le}
use Rattle.sample_streams.specs.HourDraws.{DrawnHour}
use Rattle.sample_streams.proofs.hour_draws.HourDraws.words.Goals as goal

pub returns-clause-range : goal.returns-clause-range
returns-clause-range c = λ k below.
    let s = c.self.inside in
    let n = s.components in
    let kept = c.self.invariant in
    let among : k < n = omega (arith, below, ap (λ (d : DrawnHour). d.components) c.self.view_is) in
    let within : (s.passed + 1) * n ≤ 16 * n = mul-le (s.passed + 1) n 16 n (omega (arith, kept.among)) (omega arith) in
    let there = kept.small (s.passed * n + k) (omega (arith, within, among, kept.size)) in
    rw (get_or-take {A = ℕ} (s.passed * n + n - s.passed * n) _ k 0 (omega (arith, among)), get_or-drop {A = ℕ} (s.passed * n) c.deref.result.now k 0, c.deref.ensures.value) there
