use Rattle.std.proofs.Common.{◌+◌, ◌^◌}
use Rattle.fixed_interval.proofs.Bounds.{mean_below, mean_above}
use Rattle.fixed_interval.proofs.Rounds.{floor_div-below, ceil_div-above, ceil_div-close}
use Rattle.fixed_interval.proofs.arithmetic.mix.Goals as goal

pub returns-clause-high_close : goal.returns-clause-high_close
returns-clause-high_close c = rw c.high_mean.ensures (ceil_div-close _ _ c.requires.weighed)

pub returns-clause-encloses : goal.returns-clause-encloses
returns-clause-encloses c a m b n h k = record {
  below = rw c.low_mean.ensures (mean_below (2 ^ 60) _ (c.args.f + c.args.r) _ _ _ m a _ n b (floor_div-below _ _) h.below k.below);
  above = rw c.high_mean.ensures (mean_above (2 ^ 60) _ (c.args.f + c.args.r) _ _ _ m a _ n b (ceil_div-above _ _ c.requires.weighed) h.above k.above);
}
