use Rattle.std.proofs.Common.{◌≡◌, ℕ, ◌<◌, ◌≤◌, get_or, length}
use Rattle.system_tables.proofs.records.without_end.Given as goal

abbrev pub invariant-end : goal.invariant-end
invariant-end l =
    record {
      within : l.len ≤ length l.field;
      spaces : (k : ℕ) → l.len ≤ k → k < length l.field → get_or l.field k 0 ≡ 32;
    }

abbrev pub decreases-end : goal.decreases-end
decreases-end l = l.len
