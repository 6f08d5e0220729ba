use Rattle.std.proofs.Common.{◌^◌}
use Rattle.fixed_interval.proofs.Bounds.{multiple_below, multiple_above}
use Rattle.fixed_interval.proofs.arithmetic.scale.Goals as goal

pub returns-clause-encloses : goal.returns-clause-encloses
returns-clause-encloses c p m h = record {
  below = rw c.from.ensures (multiple_below (2 ^ 60) _ m p c.args.times h.below);
  above = rw c.from-2.ensures (multiple_above (2 ^ 60) _ m p c.args.times h.above);
}
