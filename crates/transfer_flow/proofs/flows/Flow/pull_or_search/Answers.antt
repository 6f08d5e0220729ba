use Rattle.std.proofs.Common.{[], refl, ap, arith}
use Rattle.zone_network.specs.Network.{ShapeParts}
use Rattle.transfer_flow.proofs.DrawLemmas.{pulls-own, pull-short}
use Rattle.transfer_flow.proofs.flows.Flow.pull_or_search.Goals as goal

pub loop-moved-init : goal.loop-moved-init
loop-moved-init c =
    pulls-own c.args.net.now c.args.self.now c.take_spare-moved.new.self c.args.goal c.args.most c.take_spare-moved.result
    c.requires.shape c.requires.limits
    (omega (arith, c.take_spare-moved.ensures.valid.spares, ap (λ (s : ShapeParts). s.zones) c.requires.shape, c.requires.goal))
    c.take_spare-moved.ensures.given c.take_spare-moved.ensures.after

pub returns-then-more-eq0-clause-short : goal.returns-then-more-eq0-clause-short
returns-then-more-eq0-clause-short c =
    λ less.
    pull-short c.args.net.now c.loop-moved.self c.draw-more.new.self [] c.args.goal c.with_zone-seen.result
    c.draw-more.new.seen _ c.draw-more.result c.zones.ensures.valid.shape c.with_zone-seen.ensures c.draw-more.ensures.draws refl
    c.draw-more.ensures.own c.if-more-eq0.true
