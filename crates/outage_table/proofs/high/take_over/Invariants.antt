use Rattle.std.proofs.Common.{◌≤◌, length}
use Rattle.outage_table.proofs.FarLaws.{HasTaken}
use Rattle.outage_table.proofs.high.take_over.Given as goal

-- those from here on went to the bounds
abbrev pub invariant-last : goal.invariant-last
invariant-last l = record {
  within : l.len ≤ length l.near.items;
  taken : HasTaken l.near.items l.fn.bounds.items l.bounds.items l.len;
}

abbrev pub decreases-last : goal.decreases-last
decreases-last l = l.len
