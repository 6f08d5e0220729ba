use Rattle.std.proofs.Common.{◌+◌, ◌-◌, ◌*◌, ◌^◌}
use Rattle.transfer_flow.proofs.SpreadLemmas.{SpreadsSoFar}
use Rattle.transfer_flow.proofs.flows.Flow.+spreads.Given as goal

-- each call of the other marks a zone more or is the next one of spread and spread_along
abbrev pub decreases-spread : goal.decreases-spread
decreases-spread l = 2 * (2 ^ 32 - l.seen.now) + 1

abbrev pub decreases-spread_along : goal.decreases-spread_along
decreases-spread_along l = 2 * (2 ^ 32 - l.seen.now)

abbrev pub invariant-spread-loop-link : goal.invariant-spread-loop-link
invariant-spread-loop-link l = SpreadsSoFar l.net l.self l.towards l.zone l.fn.seen l.seen l.link-index
