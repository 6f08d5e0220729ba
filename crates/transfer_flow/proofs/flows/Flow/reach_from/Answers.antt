use Rattle.std.proofs.Common.{◌≡◌, ◌+◌, ℕ, false, sym, ◌∙◌, subst, arith}
use Rattle.transfer_flow.proofs.SpreadLemmas.{SpreadsFrom, spreads-none, spreads-zone, spreads-past, spreads-all}
use Rattle.transfer_flow.proofs.flows.Flow.reach_from.Goals as goal
use Rattle.transfer_flow.proofs.flows.Flow.reach_from.Goals.{then-has_zone, else-has_zone}

pub loop-zone-init : goal.loop-zone-init
loop-zone-init c =
    record {
      spreads = spreads-none c.args.net.now c.args.self.now false c.args.from c.requires.among;
      passed = λ z below h. absurd (omega arith);
    }

pub loop-zone-preserved : goal.loop-zone-preserved
loop-zone-preserved c =
    let P : ℕ → Type 0 = λ mask. SpreadsFrom c.args.net.now c.args.self.now c.args.from mask (c.loop-zone.zone + 1) in
    elim c.if-has_zone.branch [
      | then-has_zone w ↦
          subst P (sym w.mask-is)
          (spreads-zone c.args.net.now c.args.self.now c.args.from c.loop-zone.mask w.spread.new.seen c.loop-zone.zone
          c.loop-zone.invariant w.spread.ensures.spreads w.spread.ensures.own)
      | else-has_zone w ↦
          subst P (sym w.mask-is)
          (spreads-past c.args.net.now c.args.self.now c.args.from c.loop-zone.mask c.loop-zone.zone c.loop-zone.invariant
          (sym c.has_zone.ensures ∙ w.if-has_zone.false))
    ]

pub returns : goal.returns
returns c =
    let all : c.loop-zone.zone ≡ c.args.net.now.shape.zones =
    omega (arith, c.loop-zone-test.false, c.loop-zone.auto.zone-end, c.zones-zone-end.ensures.count) in
    let P : ℕ → Type 0 = λ upto. SpreadsFrom c.args.net.now c.args.self.now c.args.from c.loop-zone.mask upto in
    spreads-all c.args.net.now c.args.self.now c.args.from c.loop-zone.mask c.zones-zone-end.ensures.valid.shape
    (subst P all c.loop-zone.invariant)
