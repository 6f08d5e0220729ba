use Rattle.std.proofs.Common.{◌≡◌, ℕ, ◌≤◌, length, max, vec_len}
use Rattle.outage_table.specs.Fleet.{height, end_of}
use Rattle.outage_table.proofs.high.fill.Given as goal

-- the ends before this one are kept one by one
abbrev pub invariant-loop-x : goal.invariant-loop-x
invariant-loop-x l = record {
  len : length l.near.items ≡ l.x;
  most : l.x ≤ max (vec_len l.fn.near) l.len;
  within : l.end ≤ length l.bounds;
  enough : height l.bounds l.x ≤ l.end;
  same : (k : ℕ) → end_of l.near.items l.bounds k ≡ end_of l.fn.near.items l.bounds k;
}
