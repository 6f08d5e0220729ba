use Rattle.std.proofs.Common.{sym, arith}
use Rattle.sample_totals.proofs.EstimatesLemmas.{error-one, error-is, IsGreatestWithin-root}
use Rattle.sample_totals.proofs.estimates.error.Goals as goal

pub returns-then-samples-eq1-clause-value : goal.returns-then-samples-eq1-clause-value
returns-then-samples-eq1-clause-value c = sym (error-one c.args.sums c.args.samples c.if-samples-eq1.true)

pub returns-clause-greatest : goal.returns-clause-greatest
returns-clause-greatest c =
    let low = c.isqrt.ensures.square_le in
    let high = c.isqrt.ensures.next_square_gt in
    IsGreatestWithin-root c.args.sums c.args.samples c.isqrt.result (let ne = c.if-samples-eq1.false in omega (arith, ne)) (rw c.from-n.ensures at low) (rw c.from-n.ensures at high)

pub returns-clause-value : goal.returns-clause-value
returns-clause-value c =
    let low = c.isqrt.ensures.square_le in
    let high = c.isqrt.ensures.next_square_gt in
    error-is c.args.sums c.args.samples c.isqrt.result (let ne = c.if-samples-eq1.false in omega (arith, ne)) (IsGreatestWithin-root c.args.sums c.args.samples c.isqrt.result (let ne = c.if-samples-eq1.false in omega (arith, ne)) (rw c.from-n.ensures at low) (rw c.from-n.ensures at high))
