use Rattle.std.proofs.Common.{◌^◌}
use Rattle.fixed_interval.proofs.Bounds.{sum_below, sum_above}
use Rattle.fixed_interval.proofs.arithmetic.add.Goals as goal

pub returns-clause-encloses : goal.returns-clause-encloses
returns-clause-encloses c p m q n h k = record {
  below = sum_below (2 ^ 60) _ m p _ n q h.below k.below;
  above = sum_above (2 ^ 60) _ m p _ n q h.above k.above;
}
