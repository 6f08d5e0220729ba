use Rattle.std.proofs.Common.{◌≡◌, length}
use Rattle.base_tests.proofs.of_sample_totals.result_of.Given as goal

abbrev pub invariant-hours : goal.invariant-hours
invariant-hours g l =
    (l.result.counted ≡ l.first-index) × (l.outcome.hour ≡ l.first-index) × (l.result.room ≡ length l.hours)
    × (length l.result.figures.zones ≡ 2) × (length l.outcome.unserved ≡ 2)
