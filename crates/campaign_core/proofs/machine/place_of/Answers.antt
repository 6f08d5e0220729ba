use Rattle.std.proofs.Common.{sym, ◌∙◌}
use Rattle.campaign_core.specs.Ranges.{range}
use Rattle.campaign_core.proofs.WithoutLaws.{has-nil, has-take-more, get_is}
use Rattle.campaign_core.proofs.machine.place_of.Goals as goal

pub loop-i-init : goal.loop-i-init
loop-i-init c = has-nil (range c.args.first c.args.count)

pub returns-then-is_range : goal.returns-then-is_range
returns-then-is_range c =
    get_is c.args.ranges.now c.loop-i.i (range 0 0) (range c.args.first c.args.count) c.loop-i-test.true (sym c.is_range.ensures ∙ c.if-is_range.true)

pub loop-i-preserved : goal.loop-i-preserved
loop-i-preserved c =
    has-take-more c.args.ranges.now c.loop-i.i (range 0 0) (range c.args.first c.args.count) c.loop-i-test.true c.loop-i.invariant (sym c.is_range.ensures ∙ c.if-is_range.false)
