use Rattle.std.proofs.Common.{◌≡◌, ◌≤◌, take, map, All}
use Rattle.campaign_core.specs.declared.run.Run.{Run}
use Rattle.campaign_core.specs.Ranges.{samples_of}
use Rattle.campaign_core.proofs.machine.as_runs.Given as goal

abbrev pub invariant-loop-range : goal.invariant-loop-range
invariant-loop-range l = record {
  ordered : All (λ (r : Run). r.first ≤ r.last) l.list.items;
  samples : map samples_of l.list.items ≡ take l.range-index l.ranges;
}
