use Rattle.std.proofs.Common.{◌≡◌, ◌*◌, ◌≤◌}
use Rattle.fixed_interval.specs.Enclosure.{one}
use Rattle.fixed_interval.specs.Rounding.{floor_div, ceil_div}
use Rattle.outage_table.specs.Grid.{unserved_grid}
use Rattle.outage_table.proofs.table.OutageTable.unserved.Given as goal

abbrev pub invariant-loop-most : goal.invariant-loop-most
invariant-loop-most l = record {
  low : l.sum.0 ≡ unserved_grid floor_div l.self l.most;
  high : l.sum.1.0 ≡ unserved_grid ceil_div l.self l.most;
  ordered : l.sum.0 ≤ l.sum.1.0;
  small : l.sum.1.0 ≤ l.most * one;
}
