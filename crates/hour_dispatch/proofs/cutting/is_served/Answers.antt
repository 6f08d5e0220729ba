use Rattle.std.proofs.Common.{ℕ, true, get_or, refl, arith}
use Rattle.zone_network.proofs.SumLemmas.{sum_where-zero, sum_where-more, sum_where-term}
use Rattle.hour_dispatch.proofs.cutting.is_served.Goals as goal

pub loop-zone-init : goal.loop-zone-init
loop-zone-init c = sum_where-zero (λ (z : ℕ). true) (λ z. get_or c.args.unserved.now z 0)

pub loop-zone-preserved : goal.loop-zone-preserved
loop-zone-preserved c =
    omega (
      arith,
      sum_where-more (λ (z : ℕ). true) (λ z. get_or c.args.unserved.now z 0) c.loop-zone.zone,
      c.loop-zone.invariant,
      c.get.ensures,
      c.if-get-gt0.false,
    )

pub returns-then-get-gt0-clause-short : goal.returns-then-get-gt0-clause-short
returns-then-get-gt0-clause-short c = λ e.
    omega (
      arith,
      sum_where-term (λ (z : ℕ). true) (λ z. get_or c.args.unserved.now z 0) c.args.net.now.shape.zones c.loop-zone.zone
          (omega (arith, c.loop-zone-test.true, c.zones-zone-end.ensures.count)) refl,
      c.get.ensures,
      c.if-get-gt0.true,
    )
