use Rattle.std.proofs.Common.{◌≡◌, ℕ, ◌+◌, List, [], ◌∷◌, length, get_or, set, arith}
use Rattle.std.specs.Prelude.{sum}
use Rattle.base_tests.proofs.of_sample_totals.result_of.Goals as goal

sum-two : (xs : List ℕ) (a b : ℕ) → length xs ≡ 2 → sum (set (set xs 0 a) 1 b) ≡ a + b
sum-two [] a b e = absurd (omega arith)
sum-two (x ∷ []) a b e = absurd (omega arith)
sum-two (x ∷ (y ∷ [])) a b e = omega arith
sum-two (x ∷ (y ∷ (z ∷ xs))) a b e = absurd (omega arith)

pub add_hour-requires-clause-small : goal.add_hour-requires-clause-small
add_hour-requires-clause-small g c =
    let unserved = get_or c.args.hours.now c.hours.first-index (0, 0, 0) in
    let two = sum-two c.hours.outcome.unserved unserved.0 unserved.1 c.hours.invariant.4 in
    rw (c.set-in-hours.ensures, c.set.ensures) (omega (arith, two))
