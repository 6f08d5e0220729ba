use Rattle.std.proofs.Common.{◌≡◌, ℕ, ◌+◌, ◌<◌, ◌≤◌, get_or}
use Rattle.sample_totals.proofs.unserved.add_unserved.Given as goal

-- the zones so far have gained what they lack, and the others stay
abbrev pub invariant-loop-zone : goal.invariant-loop-zone
invariant-loop-zone l =
    ((z : ℕ) → z < l.zone → get_or l.energies z 0 ≡ get_or l.initial.energies z 0 + get_or l.unserved z 0)
    × ((z : ℕ) → l.zone ≤ z → get_or l.energies z 0 ≡ get_or l.initial.energies z 0)
