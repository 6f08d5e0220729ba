use Rattle.std.proofs.Common.{arith}
use Rattle.analytic_index.proofs.UnservedPast.{kept_low, kept_high, unserved-bound, past-low, past-high}
use Rattle.analytic_index.proofs.analysis.Analysis.unserved_under.Goals as goal

pub returns-then-need-total-clause-bound : goal.returns-then-need-total-clause-bound
returns-then-need-total-clause-bound c =
    let read = kept_high _ _ _ _ c.self.invariant (omega (arith, c.total-total.ensures.value)) c.index.ensures in
    rw read (unserved-bound _ c.args.need c.self.invariant.rated)

pub add-requires : goal.add-requires
add-requires c =
    let read = kept_high _ _ _ _ c.self.invariant (omega (arith, c.total-total.ensures.value)) c.index-2.ensures in
    let bound = unserved-bound c.self.inside.table c.total-total.result c.self.invariant.rated in
    omega arith

pub returns-clause-low : goal.returns-clause-low
returns-clause-low c =
    let read = kept_low _ _ _ _ c.self.invariant (omega (arith, c.total-total.ensures.value)) c.index-2.ensures in
    rw (← c.self.view_is, c.add.ensures.low, c.scale.ensures.low, read, c.total-total.ensures.value)
    (past-low c.self.inside.table c.args.need c.self.invariant.rated (omega arith))

pub returns-clause-high : goal.returns-clause-high
returns-clause-high c =
    let read = kept_high _ _ _ _ c.self.invariant (omega (arith, c.total-total.ensures.value)) c.index-2.ensures in
    rw (← c.self.view_is, c.add.ensures.high, c.scale.ensures.high, read, c.total-total.ensures.value)
    (past-high c.self.inside.table c.args.need c.self.invariant.rated (omega arith))

pub returns-clause-bound : goal.returns-clause-bound
returns-clause-bound c =
    let read = kept_high _ _ _ _ c.self.invariant (omega (arith, c.total-total.ensures.value)) c.index-2.ensures in
    rw (c.add.ensures.high, c.scale.ensures.high, read, c.total-total.ensures.value, past-high c.self.inside.table c.args.need c.self.invariant.rated (omega arith))
    (unserved-bound c.self.inside.table c.args.need c.self.invariant.rated)
