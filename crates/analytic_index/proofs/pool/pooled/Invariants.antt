use Rattle.std.proofs.Common.{◌≡◌, map, take}
use Rattle.analytic_index.specs.Pool.{pooled_unit}
use Rattle.analytic_index.proofs.pool.pooled.Given as goal

-- the units so far
abbrev pub invariant-loop-at : goal.invariant-loop-at
invariant-loop-at l = l.units.items ≡ map pooled_unit (take l.at l.system.units)
