use Rattle.std.proofs.Common.{◌≡◌, ℕ, ◌<◌, length, get_or}
use Rattle.sample_run.proofs.ample.clear.Given as goal

abbrev pub invariant-loop-at : goal.invariant-loop-at
invariant-loop-at l =
    record {
      size : length l.amounts ≡ length l.fn.amounts;
      zeros : (i : ℕ) → i < l.at → get_or l.amounts i 0 ≡ 0;
    }
