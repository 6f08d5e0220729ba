use Rattle.std.proofs.Common.{◌≡◌, ℕ, ◌≤◌, List, [], ◌∷◌, length, set, refl, arith}
use Rattle.system_model.specs.System.{IsHourAmong, amounts_of}
use Rattle.model_tests.proofs.of_load_model.two_zones.Goals as goal

-- two amounts within the limit make an hour of a system with two zones
two_amounts : (xs ys : List ℕ) (a b c d : ℕ) → length xs ≡ 2 → length ys ≡ 2
    → a ≤ 100000 → b ≤ 100000 → c ≤ 100000 → d ≤ 100000
    → IsHourAmong 2 (amounts_of (set (set xs 0 a) 1 b) (set (set ys 0 c) 1 d))
two_amounts (x ∷ (w ∷ [])) (y ∷ (z ∷ [])) a b c d e f h i j k =
    record { load_by_zone = refl; variable_by_zone = refl; load = omega arith; variable = omega arith }
two_amounts xs ys a b c d e f h i j k = absurd (omega arith)

pub push_hour-requires-clause-amounts : goal.push_hour-requires-clause-amounts
push_hour-requires-clause-amounts g c =
    rw (c.set-in-hours.ensures, c.set-in-hours-3.ensures, c.set.ensures, c.set-in-hours-2.ensures, c.hours.invariant.0)
    (two_amounts c.hours.load c.hours.variable _ _ _ _ c.hours.invariant.2 c.hours.invariant.3 (omega arith) (omega arith) (omega arith) (omega arith))
