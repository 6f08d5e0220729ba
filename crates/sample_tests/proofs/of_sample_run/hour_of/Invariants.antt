use Rattle.std.proofs.Common.{◌≡◌, ℕ, ◌≤◌, length, get_or}
use Rattle.sample_tests.proofs.of_sample_run.hour_of.Given as goal

abbrev pub invariant-loop-at : goal.invariant-loop-at
invariant-loop-at g l = record {
  size : length l.amounts ≡ length l.row;
  most : (k : ℕ) → get_or l.amounts k 0 ≤ 6000;
}
