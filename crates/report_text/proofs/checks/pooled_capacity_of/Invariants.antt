use Rattle.std.proofs.Common.{◌≡◌, ◌*◌, ◌≤◌, take}
use Rattle.ra_base.specs.declared.limits.TheConstants.{MOST_POOLED_MW}
use Rattle.system_model.specs.System.{pooled_capacity}
use Rattle.report_text.proofs.checks.pooled_capacity_of.Given as goal

-- the capacity of the units so far
abbrev pub invariant-loop-at : goal.invariant-loop-at
invariant-loop-at l = record {
  sum : l.pooled ≡ pooled_capacity (take l.at l.system.units);
  small : l.pooled ≤ l.at * MOST_POOLED_MW;
}
