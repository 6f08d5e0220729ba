use Rattle.std.proofs.Common.{◌+◌, ◌*◌, ◌-◌, ◌<◌, ◌≡◌, ◌∙◌, arith}
use Rattle.fixed_interval.specs.Rounding.{floor_div}
use Rattle.fixed_interval.proofs.Rounds.{floor_div-more, floor_div-small}
use Rattle.fixed_interval.proofs.arithmetic.low_mean.Goals as goal

pub returns-then-more-weight : goal.returns-then-more-weight
returns-then-more-weight c =
    let less : c.args.f * (c.args.out - c.args.up) < c.args.f + c.args.r
    = rw (c.from-3.ensures, c.from-4.ensures, c.from.ensures, c.from-2.ensures) at c.if-more-weight.true in
    let none = floor_div-small _ _ less in
    let whole : c.args.up ≡ c.args.up + floor_div (c.args.f * (c.args.out - c.args.up)) (c.args.f + c.args.r) = omega (arith, none) in
    whole ∙ floor_div-more c.args.f c.args.r c.args.up c.args.out c.requires.weighed c.if-out-up.false

pub returns : goal.returns
returns c =
    rw (c.from-3.ensures, c.from-4.ensures, c.from.ensures, c.from-2.ensures)
    (floor_div-more c.args.f c.args.r c.args.up c.args.out c.requires.weighed c.if-out-up.false)
