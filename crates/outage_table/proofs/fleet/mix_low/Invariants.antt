use Rattle.std.proofs.Common.{◌≡◌, ℕ, ◌<◌, ◌≤◌, length, get_or, slice_index}
use Rattle.fixed_interval.specs.Rounding.{floor_div}
use Rattle.outage_table.specs.Fleet.{moved}
use Rattle.outage_table.proofs.fleet.mix_low.Given as goal

-- those below are still as they were, and the others moved
abbrev pub invariant-loop-x : goal.invariant-loop-x
invariant-loop-x l = record {
  still : (k : ℕ) → k < l.x → get_or l.ends k 0 ≡ get_or l.initial.ends k 0;
  done : (k : ℕ) → l.x ≤ k → k < length l.initial.ends → get_or l.ends k 0 ≡ moved floor_div l.share.out l.share.all l.capacity (slice_index l.initial.ends) k;
}
