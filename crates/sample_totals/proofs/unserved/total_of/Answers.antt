use Rattle.std.proofs.Common.{arith}
use Rattle.std.proofs.lemmas.List.Sums.{sum_by_more_le}
use Rattle.sample_totals.proofs.unserved.total_of.Goals as goal

pub overflow_add-total : goal.overflow_add-total
overflow_add-total c =
    omega (arith, sum_by_more_le (λ x. x) c.args.unserved.now c.loop-zone.zone 0 (omega arith))
