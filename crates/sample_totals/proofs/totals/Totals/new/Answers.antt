use Rattle.std.proofs.Common.{◌≡◌, replicate, arith}
use Rattle.sample_totals.specs.Estimates.{no_sums}
use Rattle.sample_totals.proofs.TotalsLemmas.{totals-none, IsSheet-none}
use Rattle.sample_totals.proofs.totals.Totals.new.Goals as goal

pub invariant_of-result : goal.invariant_of-result
invariant_of-result c =
    let zeros : c.in_ok-vec.field-0.items ≡ replicate c.args.zones no_sums = c.in_ok-vec.ensures.items_if_clones_equal (λ y e. e) in
    rw (zeros, c.new.ensures.items) (IsSheet-none c.args.zones (omega arith))

pub returns-clause-empty : goal.returns-clause-empty
returns-clause-empty c =
    let zeros : c.in_ok-vec.field-0.items ≡ replicate c.args.zones no_sums = c.in_ok-vec.ensures.items_if_clones_equal (λ y e. e) in
    rw (zeros, c.new.ensures.items) (totals-none c.args.zones)
