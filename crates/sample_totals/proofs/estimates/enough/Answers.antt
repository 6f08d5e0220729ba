use Rattle.std.proofs.Common.{◌≤◌, ◌*◌, arith}
use Rattle.std.proofs.lemmas.Nat.{mul-le}
use Rattle.ra_base.specs.declared.limits.TheConstants.{MOST_SAMPLES}
use Rattle.sample_totals.specs.declared.results.TheConstants.{MOST_UNSERVED}
use Rattle.sample_totals.proofs.estimates.enough.Goals as goal

pub overflow_mul-precision-2 : goal.overflow_mul-precision-2
overflow_mul-precision-2 c =
    let p = c.in-Some.precision in
    let s = c.args.sums.total in
    let part = rw c.in-Some.is at c.requires.precision in
    let most : s ≤ MOST_SAMPLES * MOST_UNSERVED = omega (arith, c.requires.sums.total, c.requires.few) in
    let squares : s * s ≤ MOST_SAMPLES * MOST_UNSERVED * (MOST_SAMPLES * MOST_UNSERVED) = mul-le s s _ _ most most in
    let parts : p * p ≤ 1000 * 1000 = mul-le p p _ _ part.1 part.1 in
    let both : p * p * (s * s) ≤ 1000 * 1000 * (MOST_SAMPLES * MOST_UNSERVED * (MOST_SAMPLES * MOST_UNSERVED)) = mul-le (p * p) (s * s) _ _ parts squares in
    rw c.from-precision.ensures (omega (arith, both))
