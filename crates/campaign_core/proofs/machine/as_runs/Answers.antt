use Rattle.std.proofs.Common.{arith}
use Rattle.campaign_core.specs.Ranges.{range}
use Rattle.campaign_core.proofs.MachineLaws.{runnable_at, runs_push, ordered_push}
use Rattle.campaign_core.proofs.machine.as_runs.Goals as goal

pub overflow_add-range : goal.overflow_add-range
overflow_add-range c =
    let fits = runnable_at c.args.ranges.now c.loop-range.range-index (range 0 0) c.requires c.loop-range-test.true in
    omega (arith, fits.1)

pub overflow_sub-range : goal.overflow_sub-range
overflow_sub-range c =
    let fits = runnable_at c.args.ranges.now c.loop-range.range-index (range 0 0) c.requires c.loop-range-test.true in
    omega (arith, fits.0)

pub loop-range-preserved : goal.loop-range-preserved
loop-range-preserved c =
    let at = c.loop-range.range-index in
    let fits = runnable_at c.args.ranges.now at (range 0 0) c.requires c.loop-range-test.true in
    rw c.in_ok-push.ensures.items
    (record {
      ordered = ordered_push c.loop-range.list.items _ c.loop-range.invariant.ordered (omega (arith, fits.0));
      samples = runs_push c.args.ranges.now at (range 0 0) c.loop-range.list.items c.requires c.loop-range-test.true c.loop-range.invariant.samples;
    })
