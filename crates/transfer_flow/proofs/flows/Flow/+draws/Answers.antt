use Rattle.std.proofs.Common.{◌≡◌, ◌<◌, ◌-◌, ◌==◌, ℕ, ap, sym, ◌∙◌, arith, subst, false, true, length, List, get_or, rules}
use Rattle.zone_network.specs.Sums.{inside}
use Rattle.zone_network.specs.Masks.{AddsNumber}
use Rattle.zone_network.specs.Network.{ShapeParts, links_of, link_count}
use Rattle.zone_network.specs.declared.links.Link.{Link}
use Rattle.transfer_flow.specs.Reach.{start_of, end_of}
use Rattle.transfer_flow.specs.Draw.{IsDry, IsUnbound, IsEntered, Draws, CanDraw}
use Rattle.transfer_flow.proofs.WayLemmas.{listed_link, listed_way}
use Rattle.transfer_flow.proofs.DrawLemmas.{draws-spare, draws-more, draws-own, draws-along, draws-still}
use Rattle.transfer_flow.proofs.flows.Flow.+draws.Goals as goal

pub draw-loop-link-init : goal.draw-loop-link-init
draw-loop-link-init t c =
    draws-spare c.args.net.now c.args.self.now c.take_spare-drawn.new.self c.args.steps.now c.args.zone c.args.seen.now c.args.most
    c.take_spare-drawn.result (links_of c.args.net.now.shape c.args.zone) c.requires.can
    (omega (arith, c.take_spare-drawn.ensures.valid.spares, ap (λ (s : ShapeParts). s.zones) c.requires.can.shape))
    c.take_spare-drawn.ensures.given c.take_spare-drawn.ensures.after

pub draw-link-requires : goal.draw-link-requires
draw-link-requires t c =
    search (
      rules,
      listed_link c.args.net.now.shape c.args.zone c.loop-link.link-index c.links_of-link-items.result.now
          c.links_of-link-items.ensures.value c.loop-link-test.true,
    )

pub draw-draw_along-drawn-requires : goal.draw-draw_along-drawn-requires
draw-draw_along-drawn-requires t c =
    let below : get_or c.links_of-link-items.result.now c.loop-link.link-index 0 < link_count c.args.net.now.shape =
    listed_link c.args.net.now.shape c.args.zone c.loop-link.link-index c.links_of-link-items.result.now
    c.links_of-link-items.ensures.value c.loop-link-test.true in
    let into : end_of c.args.net.now.shape (get_or c.links_of-link-items.result.now c.loop-link.link-index 0) (c.link.result.to == c.args.zone) ≡ c.args.zone =
    listed_way c.args.net.now.shape c.args.zone c.loop-link.link-index c.link.result.to c.links_of-link-items.result.now
    c.links_of-link-items.ensures.value c.loop-link-test.true (ap (λ (l : Link). l.to) c.link.ensures.value) in
    let so_far = c.loop-link.invariant.draws in
    let P : ℕ → Type 0 = λ z. CanDraw c.args.net.now c.loop-link.self z c.loop-link.seen (c.args.most - c.loop-link.drawn) in
    let can : CanDraw c.args.net.now c.loop-link.self (end_of c.args.net.now.shape (get_or c.links_of-link-items.result.now c.loop-link.link-index 0) (c.link.result.to == c.args.zone)) c.loop-link.seen (c.args.most - c.loop-link.drawn) =
    subst P (sym into)
    record {
      shape = so_far.shape;
      limits = so_far.limits;
      zone_seen = so_far.grown c.args.zone c.requires.can.zone_seen;
      among = so_far.among;
      some = omega (arith, so_far.most, c.if-drawn-most.false);
    } in
    search (rules, below, can)

pub draw-loop-link-preserved : goal.draw-loop-link-preserved
draw-loop-link-preserved t c =
    let into : end_of c.args.net.now.shape (get_or c.links_of-link-items.result.now c.loop-link.link-index 0) (c.link.result.to == c.args.zone) ≡ c.args.zone =
    listed_way c.args.net.now.shape c.args.zone c.loop-link.link-index c.link.result.to c.links_of-link-items.result.now
    c.links_of-link-items.ensures.value c.loop-link-test.true (ap (λ (l : Link). l.to) c.link.ensures.value) in
    let draws : Draws c.args.net.now c.loop-link.self c.draw_along-drawn.new.self c.args.steps.now c.args.zone c.loop-link.seen
    c.draw_along-drawn.new.seen (c.args.most - c.loop-link.drawn) c.draw_along-drawn.result =
    subst
    (λ (z : ℕ). Draws c.args.net.now c.loop-link.self c.draw_along-drawn.new.self c.args.steps.now z c.loop-link.seen c.draw_along-drawn.new.seen (c.args.most - c.loop-link.drawn) c.draw_along-drawn.result)
    into c.draw_along-drawn.ensures.draws in
    draws-more c.args.net.now c.args.self.now c.loop-link.self c.draw_along-drawn.new.self c.args.steps.now c.args.zone c.args.seen.now
    c.loop-link.seen c.draw_along-drawn.new.seen c.args.most c.loop-link.drawn c.draw_along-drawn.result
    (links_of c.args.net.now.shape c.args.zone) c.loop-link.link-index
    c.loop-link.invariant draws
    (λ unbound nothing.
    subst
    (λ (xs : List ℕ). IsEntered c.args.net.now c.loop-link.self true c.draw_along-drawn.new.seen c.args.zone (get_or xs c.loop-link.link-index 0))
    c.links_of-link-items.ensures.value
    (subst (λ (z : ℕ). IsEntered c.args.net.now c.loop-link.self true c.draw_along-drawn.new.seen z (get_or c.links_of-link-items.result.now c.loop-link.link-index 0)) into (c.draw_along-drawn.ensures.entered unbound nothing)))

pub draw-returns-after-loop-link-clause-own : goal.draw-returns-after-loop-link-clause-own
draw-returns-after-loop-link-clause-own t c =
    draws-own c.args.net.now c.args.self.now c.loop-link.self c.args.steps.now c.args.zone c.args.seen.now c.loop-link.seen c.args.most
    c.loop-link.drawn c.loop-link.link-index c.loop-link.invariant
    (omega (arith, ap length c.links_of-link-items.ensures.value, c.loop-link-test.false))

pub draw_along-returns-then-drawn-gt0-clause-draws : goal.draw_along-returns-then-drawn-gt0-clause-draws
draw_along-returns-then-drawn-gt0-clause-draws t c =
    let start : c.start_of-start.result ≡ start_of c.args.net.now.shape c.args.link c.args.forward = c.start_of-start.ensures.value in
    let adds : AddsNumber c.args.seen.now (start_of c.args.net.now.shape c.args.link c.args.forward) c.with_zone.result =
    subst (λ (z : ℕ). AddsNumber c.args.seen.now z c.with_zone.result) start c.with_zone.ensures in
    let draws : Draws c.args.net.now c.args.self.now c.draw-drawn.new.self c.args.steps.now (start_of c.args.net.now.shape c.args.link c.args.forward)
    c.with_zone.result c.draw-drawn.new.seen c.min.result c.draw-drawn.result =
    subst
    (λ (z : ℕ). Draws c.args.net.now c.args.self.now c.draw-drawn.new.self c.args.steps.now z c.with_zone.result c.draw-drawn.new.seen c.min.result c.draw-drawn.result)
    start c.draw-drawn.ensures.draws in
    let unseen : inside c.args.seen.now (start_of c.args.net.now.shape c.args.link c.args.forward) ≡ false =
    ap (inside c.args.seen.now) (sym start) ∙ sym c.has_zone.ensures ∙ c.if-has_zone.false in
    draws-along c.args.net.now c.args.self.now c.draw-drawn.new.self c.carry.new.self c.args.steps.now c.args.link c.args.forward c.args.seen.now
    c.with_zone.result c.draw-drawn.new.seen c.args.most c.min.result c.draw-drawn.result c.start_of-start.ensures.valid.shape
    c.requires.link c.requires.can unseen adds (omega (arith, c.min.ensures))
    (omega (arith, c.min.ensures, c.room-room.ensures.value)) c.if-drawn-gt0.true draws c.carry.ensures

pub draw_along-returns-else-drawn-gt0-clause-draws : goal.draw_along-returns-else-drawn-gt0-clause-draws
draw_along-returns-else-drawn-gt0-clause-draws t c =
    let start : c.start_of-start.result ≡ start_of c.args.net.now.shape c.args.link c.args.forward = c.start_of-start.ensures.value in
    let adds : AddsNumber c.args.seen.now (start_of c.args.net.now.shape c.args.link c.args.forward) c.with_zone.result =
    subst (λ (z : ℕ). AddsNumber c.args.seen.now z c.with_zone.result) start c.with_zone.ensures in
    let draws : Draws c.args.net.now c.args.self.now c.draw-drawn.new.self c.args.steps.now (start_of c.args.net.now.shape c.args.link c.args.forward)
    c.with_zone.result c.draw-drawn.new.seen c.min.result c.draw-drawn.result =
    subst
    (λ (z : ℕ). Draws c.args.net.now c.args.self.now c.draw-drawn.new.self c.args.steps.now z c.with_zone.result c.draw-drawn.new.seen c.min.result c.draw-drawn.result)
    start c.draw-drawn.ensures.draws in
    let own : IsUnbound c.args.steps.now → c.draw-drawn.result ≡ 0 → IsDry c.args.net.now c.args.self.now c.draw-drawn.new.seen (start_of c.args.net.now.shape c.args.link c.args.forward) =
    subst (λ (z : ℕ). IsUnbound c.args.steps.now → c.draw-drawn.result ≡ 0 → IsDry c.args.net.now c.args.self.now c.draw-drawn.new.seen z) start
    c.draw-drawn.ensures.own in
    draws-still c.args.net.now c.args.self.now c.draw-drawn.new.self c.args.steps.now (end_of c.args.net.now.shape c.args.link c.args.forward)
    (start_of c.args.net.now.shape c.args.link c.args.forward) c.args.seen.now c.with_zone.result c.draw-drawn.new.seen
    c.args.most c.min.result c.draw-drawn.result c.requires.can adds draws own (omega (arith, c.if-drawn-gt0.false))
