use Rattle.std.proofs.Common.{◌≡◌, ℕ, ◌≤◌, List, [], ◌∷◌, length, set, refl, arith}
use Rattle.system_model.specs.System.{IsHourAmong, amounts_of}
use Rattle.index_tests.proofs.systems.one_zone.Goals as goal

-- one amount each within the limit makes an hour of a system with one zone
one_amount : (xs ys : List ℕ) (a b : ℕ) → length xs ≡ 1 → length ys ≡ 1 → a ≤ 200000 → b ≤ 200000
    → IsHourAmong 1 (amounts_of (set xs 0 a) (set ys 0 b))
one_amount (x ∷ []) (y ∷ []) a b e f h k = record { load_by_zone = refl; variable_by_zone = refl; load = omega arith; variable = omega arith }
one_amount xs ys a b e f h k = absurd (omega arith)

pub push_hour-requires-clause-amounts : goal.push_hour-requires-clause-amounts
push_hour-requires-clause-amounts g c =
    rw (c.set.ensures, c.set-in-hours.ensures, c.hours.invariant.0) (one_amount c.hours.load c.hours.variable _ _ c.hours.invariant.2 c.hours.invariant.3 (omega arith) (omega arith))
