use Rattle.std.proofs.Common.{◌≡◌, ℕ, ◌+◌, ◌≤◌, take, get_or, vec_len}
use Rattle.fixed_interval.specs.Rounding.{floor_div, ceil_div}
use Rattle.outage_table.specs.States.{total_capacity}
use Rattle.outage_table.specs.Fleet.{end_of, AreDescending}
use Rattle.outage_table.proofs.FleetLaws.{AreEnds}
use Rattle.outage_table.proofs.fleet.entries_of.Given as goal

-- the ends of the units so far
abbrev pub invariant-loop-unit : goal.invariant-loop-unit
invariant-loop-unit l = record {
  low : AreEnds floor_div (λ x. get_or l.low.items x 0) (take l.unit-index l.units);
  high : AreEnds ceil_div (end_of l.high.near.items l.high.far.items) (take l.unit-index l.units);
  total : l.total ≡ total_capacity (take l.unit-index l.units);
  few_low : vec_len l.low ≤ l.total + 1;
  descending : AreDescending l.high.far.items;
  few_high : vec_len l.high.near ≤ l.total + 1;
  within : (i : ℕ) → get_or l.high.far.items i 0 ≤ l.total + 1;
}
