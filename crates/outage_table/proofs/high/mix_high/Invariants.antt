use Rattle.std.proofs.Common.{◌≡◌, ℕ, ◌<◌, ◌≤◌, length, get_or, slice_index}
use Rattle.fixed_interval.specs.Rounding.{ceil_div}
use Rattle.outage_table.specs.Fleet.{moved}
use Rattle.outage_table.proofs.high.mix_high.Given as goal

-- those below are still as they were, and the others moved
abbrev pub invariant-far : goal.invariant-far
invariant-far l = record {
  near : l.near ≤ l.x;
  still : (k : ℕ) → k < l.x → get_or l.ends k 0 ≡ get_or l.fn.ends k 0;
  done : (k : ℕ) → l.x ≤ k → k < length l.fn.ends → get_or l.ends k 0 ≡ moved ceil_div l.share.out l.share.all l.capacity (slice_index l.fn.ends) k;
}

abbrev pub invariant-near : goal.invariant-near
invariant-near l = record {
  still : (k : ℕ) → k < l.x → get_or l.ends k 0 ≡ get_or l.fn.ends k 0;
  done : (k : ℕ) → l.x ≤ k → k < length l.fn.ends → get_or l.ends k 0 ≡ moved ceil_div l.share.out l.share.all l.capacity (slice_index l.fn.ends) k;
}
