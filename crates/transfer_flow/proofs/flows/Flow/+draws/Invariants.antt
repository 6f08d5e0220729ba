use Rattle.std.proofs.Common.{◌+◌, ◌-◌, ◌*◌, ◌^◌}
use Rattle.zone_network.specs.Network.{links_of}
use Rattle.transfer_flow.proofs.DrawLemmas.{DrawsSoFar}
use Rattle.transfer_flow.proofs.flows.Flow.+draws.Given as goal

-- each call of the other marks a zone more or is the next one of draw and draw_along
abbrev pub decreases-draw : goal.decreases-draw
decreases-draw l = 2 * (2 ^ 32 - l.seen.now) + 1

abbrev pub decreases-draw_along : goal.decreases-draw_along
decreases-draw_along l = 2 * (2 ^ 32 - l.seen.now)

abbrev pub invariant-draw-loop-link : goal.invariant-draw-loop-link
invariant-draw-loop-link l = DrawsSoFar l.net l.fn.self l.self l.steps l.zone l.fn.seen l.seen l.most l.drawn (links_of l.net.shape l.zone) l.link-index
