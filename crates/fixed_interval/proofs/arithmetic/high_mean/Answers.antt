use Rattle.std.proofs.Common.{◌+◌, ◌*◌, ◌-◌, ◌<◌, ◌≡◌, ◌∙◌, arith}
use Rattle.fixed_interval.specs.Rounding.{ceil_div}
use Rattle.fixed_interval.proofs.Rounds.{ceil_div-more, ceil_div-none, ceil_div-small}
use Rattle.fixed_interval.proofs.arithmetic.high_mean.Goals as goal

pub returns-then-more-eq0 : goal.returns-then-more-eq0
returns-then-more-eq0 c =
    let nothing : c.args.f * (c.args.out - c.args.up) ≡ 0
    = rw (c.from-3.ensures, c.from-4.ensures) at c.if-more-eq0.true in
    let none = ceil_div-none (c.args.f * (c.args.out - c.args.up)) (c.args.f + c.args.r) c.requires.weighed nothing in
    let whole : c.args.up ≡ c.args.up + ceil_div (c.args.f * (c.args.out - c.args.up)) (c.args.f + c.args.r) = omega (arith, none) in
    whole ∙ ceil_div-more c.args.f c.args.r c.args.up c.args.out c.requires.weighed c.if-out-up.false

pub returns-then-more-weight : goal.returns-then-more-weight
returns-then-more-weight c =
    let less : c.args.f * (c.args.out - c.args.up) < c.args.f + c.args.r
    = rw (c.from-3.ensures, c.from-4.ensures, c.from.ensures, c.from-2.ensures) at c.if-more-weight.true in
    let something : 0 < c.args.f * (c.args.out - c.args.up)
    = rw (c.from-3.ensures, c.from-4.ensures) at (let h : 0 < c.from-3.result * c.from-4.result = omega arith in h) in
    let one_more = ceil_div-small (c.args.f * (c.args.out - c.args.up)) (c.args.f + c.args.r) something less in
    let whole : c.args.up + 1 ≡ c.args.up + ceil_div (c.args.f * (c.args.out - c.args.up)) (c.args.f + c.args.r) = omega (arith, one_more) in
    whole ∙ ceil_div-more c.args.f c.args.r c.args.up c.args.out c.requires.weighed c.if-out-up.false

pub returns : goal.returns
returns c =
    rw (c.from-3.ensures, c.from-4.ensures, c.from.ensures, c.from-2.ensures)
    (ceil_div-more c.args.f c.args.r c.args.up c.args.out c.requires.weighed c.if-out-up.false)
