-- The steps that join ascending runs, and what joined runs are.
use Rattle.std.proofs.Common.{◌≡◌, ℕ, ◌+◌, ◌-◌, ◌<◌, ◌≤◌, List, [], ◌∷◌, ◌++◌, map, arith}
use Rattle.std.proofs.lemmas.List.{map_push}
use Rattle.campaign_core.specs.declared.run.Run.{Run}
use Rattle.campaign_core.specs.Ranges.{run, samples_of, weight_of, AreSame}
use Rattle.campaign_core.specs.Joining.{Spaced}
use Rattle.campaign_core.proofs.Totals.{weight-cut, total_push}

-- a run behind spaced runs, with a number left out
pub spaced_push : (low : ℕ) (front : List Run) (j r : Run) → Spaced low (front ++ j ∷ []) → j.last + 2 ≤ r.first → r.first ≤ r.last → Spaced low ((front ++ j ∷ []) ++ r ∷ [])
spaced_push low [] j r s gap filled = (s.0, s.1, (gap, filled, tt))
spaced_push low (f ∷ front) j r s gap filled = (s.0, s.1, spaced_push (f.last + 2) front j r s.2 gap filled)

-- the last of spaced runs made longer
pub spaced_longer : (low : ℕ) (front : List Run) (j : Run) (last : ℕ) → Spaced low (front ++ j ∷ []) → j.last ≤ last → Spaced low (front ++ run j.first last ∷ [])
spaced_longer low [] j last s h = (s.0, omega (arith, s.1), tt)
spaced_longer low (f ∷ front) j last s h = (s.0, s.1, spaced_longer (f.last + 2) front j last s.2 h)

-- each run ends below a number
abbrev pub EndBelow : ℕ → List Run → Type 0
EndBelow n [] = Unit {0}
EndBelow n (r ∷ rs) = (r.last < n) × EndBelow n rs

pub end_below_push : (n m : ℕ) (rs : List Run) (r : Run) → EndBelow n rs → n ≤ m → r.last < m → EndBelow m (rs ++ r ∷ [])
end_below_push n m [] r e h l = (l, tt)
end_below_push n m (x ∷ rs) r e h l = (omega (arith, e.0), end_below_push n m rs r e.1 h l)

pub end_below_front : (n : ℕ) (front : List Run) (j : Run) → EndBelow n (front ++ j ∷ []) → EndBelow n front × (j.last < n)
end_below_front n [] j e = (tt, e.0)
end_below_front n (f ∷ front) j e = ((e.0, (end_below_front n front j e.1).0), (end_below_front n front j e.1).1)

-- a run that touches another, as one
pub weight_touch : (w : ℕ → ℕ) (j r : Run) → j.first ≤ j.last → j.last + 1 ≡ r.first → r.first ≤ r.last
    → weight_of w (samples_of (run j.first r.last)) ≡ weight_of w (samples_of j) + weight_of w (samples_of r)
weight_touch w j r f t g =
    let count : r.last + 1 - j.first ≡ (j.last + 1 - j.first) + (r.last + 1 - r.first) = omega arith in
    let begin : j.first + (j.last + 1 - j.first) ≡ r.first = omega arith in
    let cut = weight-cut w j.first (j.last + 1 - j.first) (r.last + 1 - r.first) in
    rw count (rw begin at cut)

-- the same samples, where a run was put behind
pub joined_push : (xs js : List Run) (r : Run) → AreSame (map samples_of js) (map samples_of xs) → AreSame (map samples_of (js ++ r ∷ [])) (map samples_of (xs ++ r ∷ []))
joined_push xs js r same w =
    rw (map_push samples_of js r, map_push samples_of xs r)
    (omega (arith, total_push w (map samples_of js) (samples_of r), total_push w (map samples_of xs) (samples_of r), same w))

-- the same samples, where a run was joined to the last one
pub joined_longer : (xs front : List Run) (j r : Run) → j.first ≤ j.last → j.last + 1 ≡ r.first → r.first ≤ r.last
    → AreSame (map samples_of (front ++ j ∷ [])) (map samples_of xs)
    → AreSame (map samples_of (front ++ run j.first r.last ∷ [])) (map samples_of (xs ++ r ∷ []))
joined_longer xs front j r f t g same w =
    let before = rw (map_push samples_of front j) at (same w) in
    let touch = weight_touch w j r f t g in
    rw (map_push samples_of front (run j.first r.last), map_push samples_of xs r)
    (omega (arith, total_push w (map samples_of front) (samples_of (run j.first r.last)), total_push w (map samples_of front) (samples_of j), total_push w (map samples_of xs) (samples_of r)))

-- the last of spaced runs isn't empty
pub spaced_last : (low : ℕ) (front : List Run) (j : Run) → Spaced low (front ++ j ∷ []) → j.first ≤ j.last
spaced_last low [] j s = s.1
spaced_last low (f ∷ front) j s = spaced_last (f.last + 2) front j s.2
