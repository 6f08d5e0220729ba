use Rattle.std.proofs.Common.{◌≡◌, ℕ, ◌+◌, ◌<◌, ◌≤◌, get_or}
use Rattle.outage_table.specs.Fleet.{raised_bound}
use Rattle.outage_table.proofs.high.raise.Given as goal

-- those from here on are still as they were, as is the one before, and the others are raised
abbrev pub invariant-loop-at : goal.invariant-loop-at
invariant-loop-at l = record {
  none : l.at ≡ 0 → l.before ≡ 4294967295;
  before : (k : ℕ) → k + 1 ≡ l.at → l.before ≡ get_or l.initial.bounds k 0;
  still : (k : ℕ) → l.at ≤ k → get_or l.bounds k 0 ≡ get_or l.initial.bounds k 0;
  done : (k : ℕ) → k < l.at → get_or l.bounds k 0 ≡ raised_bound l.initial.bounds l.capacity k;
}
