use Rattle.std.proofs.Common.{◌≤◌, length}
use Rattle.outage_table.specs.Fleet.{height}
use Rattle.outage_table.proofs.high.height_at.Given as goal

-- no more than these lie past
abbrev pub invariant-near : goal.invariant-near
invariant-near l = record {
  within : l.count ≤ length l.bounds;
  enough : height l.bounds l.x ≤ l.count;
}

abbrev pub decreases-near : goal.decreases-near
decreases-near l = l.count
