use Rattle.std.proofs.Common.{◌≡◌, length}
use Rattle.base_tests.proofs.of_result_recorders.fill.Given as goal

abbrev pub invariant-loop-at : goal.invariant-loop-at
invariant-loop-at l = length l.amounts ≡ length l.values
