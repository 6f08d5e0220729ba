use Rattle.std.proofs.Common.{◌≡◌, length, vec_len, replicate, arith, ap, ◌∙◌}
use Rattle.sample_totals.proofs.ResultsLemmas.{tally-none, IsInRange-none}
use Rattle.sample_totals.proofs.results.SampleResult.clear.Goals as goal

pub invariant_of-self : goal.invariant_of-self
invariant_of-self c =
    let zeros : c.fill.new.self.items ≡ replicate (length c.self.inside.zones.items) 0 = c.fill.ensures.items (λ y e. e) ∙ ap (λ n. replicate n 0) (let e : vec_len c.self.inside.zones ≡ length c.self.inside.zones.items = omega arith in e) in
    let is = c.self.invariant.1 in (
      omega (arith, c.clear.ensures.capacity, c.self.invariant.0),
      rw (zeros, c.clear.ensures.items) (IsInRange-none c.self.inside.room (length c.self.inside.zones.items) is.room is.some_zone is.few_zones),
    )

pub returns : goal.returns
returns c =
    let zeros : c.fill.new.self.items ≡ replicate (length c.self.inside.zones.items) 0 = c.fill.ensures.items (λ y e. e) ∙ ap (λ n. replicate n 0) (let e : vec_len c.self.inside.zones ≡ length c.self.inside.zones.items = omega arith in e) in
    rw (zeros, c.clear.ensures.items, ← c.self.view_is) (tally-none c.self.inside.room (length c.self.inside.zones.items))
