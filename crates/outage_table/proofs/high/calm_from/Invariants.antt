use Rattle.std.proofs.Common.{ℕ, ◌+◌, ◌<◌, ◌≤◌, get_or}
use Rattle.outage_table.proofs.high.calm_from.Given as goal

-- so many steps of the staircase are long enough
abbrev pub invariant-loop-at : goal.invariant-loop-at
invariant-loop-at l = (k : ℕ) → k < l.at → get_or l.bounds (k + l.small) 0 + l.capacity ≤ get_or l.bounds k 0
