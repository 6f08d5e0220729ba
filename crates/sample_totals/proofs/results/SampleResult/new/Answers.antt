use Rattle.std.proofs.Common.{arith, ◌≡◌, replicate}
use Rattle.sample_totals.proofs.ResultsLemmas.{tally-none, IsInRange-none}
use Rattle.sample_totals.proofs.results.SampleResult.new.Goals as goal

pub invariant_of-result : goal.invariant_of-result
invariant_of-result c =
    let zeros : c.in_ok-vec.field-0.items ≡ replicate c.args.zones 0 = c.in_ok-vec.ensures.items_if_clones_equal (λ y e. e) in (
      omega (arith, c.in_ok-with_capacity.ensures.capacity),
      rw (zeros, c.in_ok-with_capacity.ensures.items)
          (IsInRange-none c.args.hours c.args.zones c.requires.few_hours c.requires.some_zone c.requires.few_zones),
    )

pub returns-clause-empty : goal.returns-clause-empty
returns-clause-empty c =
    let zeros : c.in_ok-vec.field-0.items ≡ replicate c.args.zones 0 = c.in_ok-vec.ensures.items_if_clones_equal (λ y e. e) in
    rw (zeros, c.in_ok-with_capacity.ensures.items) (tally-none c.args.hours c.args.zones)
