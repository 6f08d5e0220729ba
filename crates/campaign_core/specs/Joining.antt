-- Ascending runs, and what joining those that touch leaves.
use Rattle.std.specs.Prelude.{ℕ, ◌+◌, ◌≤◌, List, [], ◌∷◌, map}
use Rattle.ra_base.specs.declared.limits.TheConstants.{MOST_SAMPLES}
use Rattle.campaign_core.specs.declared.run.Run.{Run}
use Rattle.campaign_core.specs.declared.run.SampleRange.{SampleRange}
use Rattle.campaign_core.specs.Ranges.{samples_of, AreSame}

-- runs that begin at a number or behind it, one behind the other
abbrev pub Ascends : ℕ → List Run → Type 0
Ascends low [] = Unit {0}
Ascends low (r ∷ rs) = (low ≤ r.first) × (r.first ≤ r.last) × Ascends (r.last + 1) rs

-- the same, with a number left out between each two
abbrev pub Spaced : ℕ → List Run → Type 0
Spaced low [] = Unit {0}
Spaced low (r ∷ rs) = (low ≤ r.first) × (r.first ≤ r.last) × Spaced (r.last + 2) rs

-- the same samples as spaced runs
abbrev pub IsJoined : List Run → List Run → Type 0
IsJoined rs js = Spaced 0 js × AreSame (map samples_of js) (map samples_of rs)

-- no range is empty, and each ends where a study may end
abbrev pub AreRunnable : List SampleRange → Type 0
AreRunnable [] = Unit {0}
AreRunnable (r ∷ rs) = (1 ≤ r.count) × (r.first + r.count ≤ MOST_SAMPLES) × AreRunnable rs
