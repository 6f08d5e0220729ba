use Rattle.std.proofs.Common.{◌≡◌, ℕ, ◌<◌, ◌≤◌, get_or}
use Rattle.sample_totals.specs.Estimates.{no_sums, with_value}
use Rattle.sample_totals.proofs.totals.add_zones.Given as goal

-- the zones so far have gained their values, and the others stay
abbrev pub invariant-loop-zone : goal.invariant-loop-zone
invariant-loop-zone l =
    ((z : ℕ) → z < l.zone → get_or l.sample.figures.zones z 0 ≤ 1756800000)
    × ((z : ℕ) → z < l.zone → get_or l.zones z no_sums ≡ with_value (get_or l.initial.zones z no_sums) (get_or l.sample.figures.zones z 0))
    × ((z : ℕ) → l.zone ≤ z → get_or l.zones z no_sums ≡ get_or l.initial.zones z no_sums)
