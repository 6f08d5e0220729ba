use Rattle.std.proofs.Common.{arith}
use Rattle.campaign_core.proofs.Totals.{total-one}
use Rattle.campaign_core.proofs.MachineLaws.{weight-ones}
use Rattle.campaign_tests.proofs.of_campaign_core.CounterJobCounting.run.Goals as goal

pub returns-clause-sum : goal.returns-clause-sum
returns-clause-sum c =
    λ work serves.
    omega (arith, total-one (λ sample. 1) c.args.share, weight-ones c.args.share.first c.args.share.count, c.of.ensures.sum, c.count-count.ensures.value)
