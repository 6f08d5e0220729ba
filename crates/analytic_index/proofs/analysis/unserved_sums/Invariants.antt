use Rattle.std.proofs.Common.{◌≡◌, ◌+◌, ◌*◌, ◌≤◌}
use Rattle.fixed_interval.specs.Enclosure.{one}
use Rattle.fixed_interval.specs.Rounding.{floor_div, ceil_div}
use Rattle.outage_table.specs.Grid.{unserved_grid}
use Rattle.analytic_index.specs.Kept.{AreUnserved}
use Rattle.analytic_index.proofs.analysis.unserved_sums.Given as goal

-- the sums so far, and the last of them
abbrev pub invariant-loop-most : goal.invariant-loop-most
invariant-loop-most l = record {
  kept : AreUnserved l.sums.items l.table (l.most + 1);
  low : l.sum.low ≡ unserved_grid floor_div l.table l.most;
  high : l.sum.high ≡ unserved_grid ceil_div l.table l.most;
  ordered : l.sum.low ≤ l.sum.high;
  small : l.sum.high ≤ l.most * one;
}
