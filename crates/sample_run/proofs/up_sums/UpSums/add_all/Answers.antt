use Rattle.std.proofs.Common.{arith}
use Rattle.sample_run.proofs.UpSumsLoops.{first, not-first, added-more, added-all}
use Rattle.sample_run.proofs.up_sums.UpSums.add_all.Goals as goal

pub loop-component-preserved : goal.loop-component-preserved
loop-component-preserved c =
    added-more c.args.system.now c.turn.new.self c.loop-component.component
    (c.turn.ensures.sums (first c.loop-component.component) c.loop-component.invariant (not-first c.loop-component.component))

pub returns : goal.returns
returns c =
    added-all c.args.system.now c.loop-component.self c.loop-component.component
    (omega (arith, c.loop-component-test.false, c.loop-component.auto.component-end, c.component_count-component-end.ensures)) c.loop-component.invariant
