use Rattle.std.proofs.Common.{◌≡◌, ℕ, ◌<◌, ◌≤◌, get_or}
use Rattle.sample_totals.specs.Estimates.{joined_sums, no_sums}
use Rattle.sample_totals.proofs.totals.merge_zones.Given as goal

-- the zones so far have gained the others' sums, and the rest stay
abbrev pub invariant-loop-zone : goal.invariant-loop-zone
invariant-loop-zone l =
    ((z : ℕ) → z < l.zone → get_or l.zones z no_sums ≡ joined_sums (get_or l.initial.zones z no_sums) (get_or l.more z no_sums))
    × ((z : ℕ) → l.zone ≤ z → get_or l.zones z no_sums ≡ get_or l.initial.zones z no_sums)
