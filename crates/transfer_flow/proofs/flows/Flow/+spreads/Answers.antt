use Rattle.std.proofs.Common.{◌≡◌, ◌<◌, ◌==◌, ℕ, ap, sym, ◌∙◌, arith, subst, Bool, length, List, get_or, rules}
use Rattle.zone_network.specs.Masks.{AddsNumber}
use Rattle.zone_network.specs.Network.{link_count}
use Rattle.zone_network.specs.declared.links.Link.{Link}
use Rattle.transfer_flow.specs.Reach.{room, way, start_of, end_of}
use Rattle.transfer_flow.specs.Draw.{IsEntered}
use Rattle.transfer_flow.specs.Spread.{CanSpread, IsPassed}
use Rattle.transfer_flow.proofs.WayLemmas.{listed_link, listed_way}
use Rattle.transfer_flow.proofs.SpreadLemmas.{spreads-more, spreads-own, spreads-along}
use Rattle.transfer_flow.proofs.flows.Flow.+spreads.Goals as goal

pub spread-link-requires : goal.spread-link-requires
spread-link-requires t c =
    search (
      rules,
      listed_link c.args.net.now.shape c.args.zone c.loop-link.link-index c.links_of-link-items.result.now
          c.links_of-link-items.ensures.value c.loop-link-test.true,
    )

pub spread-spread_along-requires : goal.spread-spread_along-requires
spread-spread_along-requires t c =
    let below : get_or c.links_of-link-items.result.now c.loop-link.link-index 0 < link_count c.args.net.now.shape =
    listed_link c.args.net.now.shape c.args.zone c.loop-link.link-index c.links_of-link-items.result.now
    c.links_of-link-items.ensures.value c.loop-link-test.true in
    let into : end_of c.args.net.now.shape (get_or c.links_of-link-items.result.now c.loop-link.link-index 0) (c.link.result.to == c.args.zone) ≡ c.args.zone =
    listed_way c.args.net.now.shape c.args.zone c.loop-link.link-index c.link.result.to c.links_of-link-items.result.now
    c.links_of-link-items.ensures.value c.loop-link-test.true (ap (λ (l : Link). l.to) c.link.ensures.value) in
    let so_far = c.loop-link.invariant.spreads in
    let P : ℕ → Type 0 = λ z. CanSpread c.args.net.now c.args.self.now z c.loop-link.seen in
    let can : CanSpread c.args.net.now c.args.self.now (end_of c.args.net.now.shape (get_or c.links_of-link-items.result.now c.loop-link.link-index 0) (c.link.result.to == c.args.zone)) c.loop-link.seen =
    subst P (sym into)
    record {
      shape = c.requires.can.shape;
      limits = c.requires.can.limits;
      zone_seen = so_far.grown c.args.zone c.requires.can.zone_seen;
      among = so_far.among;
    } in
    search (rules, below, can)

pub spread-loop-link-preserved : goal.spread-loop-link-preserved
spread-loop-link-preserved t c =
    let into : end_of c.args.net.now.shape (get_or c.links_of-link-items.result.now c.loop-link.link-index 0) (c.link.result.to == c.args.zone) ≡ c.args.zone =
    listed_way c.args.net.now.shape c.args.zone c.loop-link.link-index c.link.result.to c.links_of-link-items.result.now
    c.links_of-link-items.ensures.value c.loop-link-test.true (ap (λ (l : Link). l.to) c.link.ensures.value) in
    spreads-more c.args.net.now c.args.self.now c.args.towards c.args.zone c.args.seen.now c.loop-link.seen
    c.spread_along.new.seen c.loop-link.link-index c.loop-link.invariant c.spread_along.ensures.spreads
    (subst
    (λ (xs : List ℕ). IsEntered c.args.net.now c.args.self.now c.args.towards c.spread_along.new.seen c.args.zone (get_or xs c.loop-link.link-index 0))
    c.links_of-link-items.ensures.value
    (subst (λ (z : ℕ). IsEntered c.args.net.now c.args.self.now c.args.towards c.spread_along.new.seen z (get_or c.links_of-link-items.result.now c.loop-link.link-index 0)) into c.spread_along.ensures.entered))

pub spread-returns-clause-own : goal.spread-returns-clause-own
spread-returns-clause-own t c =
    spreads-own c.args.net.now c.args.self.now c.args.towards c.args.zone c.args.seen.now c.loop-link.seen
    c.loop-link.link-index c.loop-link.invariant
    (omega (arith, ap length c.links_of-link-items.ensures.value, c.loop-link-test.false))

pub spread_along-returns-clause-spreads : goal.spread_along-returns-clause-spreads
spread_along-returns-clause-spreads t c =
    let start : c.start_of-start.result ≡ start_of c.args.net.now.shape c.args.link c.args.forward = c.start_of-start.ensures.value in
    let adds : AddsNumber c.args.seen.now (start_of c.args.net.now.shape c.args.link c.args.forward) c.with_zone.result =
    subst (λ (z : ℕ). AddsNumber c.args.seen.now z c.with_zone.result) start c.with_zone.ensures in
    let own : IsPassed c.args.net.now c.args.self.now c.args.towards c.spread.new.seen (start_of c.args.net.now.shape c.args.link c.args.forward) =
    subst (λ (z : ℕ). IsPassed c.args.net.now c.args.self.now c.args.towards c.spread.new.seen z) start c.spread.ensures.own in
    let value : c.room-room.result ≡ room c.args.net.now c.args.self.now c.args.link (way c.args.towards c.args.forward) =
    c.room-room.ensures.value ∙ ap (λ (b : Bool). room c.args.net.now c.args.self.now c.args.link b) c.way.ensures in
    spreads-along c.args.net.now c.args.self.now c.args.towards c.args.link c.args.forward c.args.seen.now
    c.with_zone.result c.spread.new.seen c.requires.link c.requires.can.zone_seen
    (omega (arith, c.if-room-eq0.false)) adds c.spread.ensures.spreads own
