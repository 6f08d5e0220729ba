use Rattle.transfer_flow.proofs.SpreadLemmas.{spreads-goal}
use Rattle.transfer_flow.proofs.flows.Flow.reach_to.Goals as goal

pub returns : goal.returns
returns c =
    spreads-goal c.args.net.now c.args.self.now c.args.goal c.with_zone-mask.result c.spread.new.seen
    c.with_zone-mask.ensures c.spread.ensures.spreads c.spread.ensures.own
