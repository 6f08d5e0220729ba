-- The numbers below a bound that pass a test, ascending.
use Rattle.std.proofs.Common.{◌≡◌, ℕ, zero, suc, add-one, ◌+◌, ◌<◌, Bool, true, false, cond, List, [], ◌∷◌, ◌++◌, filter, refl, ap, sym, ◌∙◌, subst, arith, append-nil}
use Rattle.std.specs.List.{range_with_len}
use Rattle.ra_base.proofs.Passing.{passing_more}

-- tests that agree below the bound
pub passing_alike : (p q : ℕ → Bool) (n : ℕ) → ((k : ℕ) → k < n → p k ≡ q k) → filter p (range_with_len 0 n) ≡ filter q (range_with_len 0 n)
passing_alike p q zero same = refl
passing_alike p q (suc n) same =
    let before : filter p (range_with_len 0 n) ≡ filter q (range_with_len 0 n) = passing_alike p q n (λ k below. same k (omega arith)) in
    let more : filter p (range_with_len 0 (n + 1)) ≡ filter q (range_with_len 0 (n + 1)) =
    passing_more p n
    ∙ ap (λ (xs : List ℕ). xs ++ cond (p n) (n ∷ []) []) before
    ∙ ap (λ (b : Bool). filter q (range_with_len 0 n) ++ cond b (n ∷ []) []) (same n (omega arith))
    ∙ sym (passing_more q n) in
    subst (λ (m : ℕ). filter p (range_with_len 0 m) ≡ filter q (range_with_len 0 m)) (add-one n) more

-- where none passes
pub passing_none : (p : ℕ → Bool) (n : ℕ) → ((k : ℕ) → k < n → p k ≡ false) → filter p (range_with_len 0 n) ≡ []
passing_none p n none = passing_alike p (λ _. false) n none ∙ nothing n
  where
    nothing_from : (a n : ℕ) → filter (λ (_ : ℕ). false) (range_with_len a n) ≡ []
    nothing_from a zero = refl
    nothing_from a (suc n) = nothing_from (a + 1) n

    nothing : (n : ℕ) → filter (λ (_ : ℕ). false) (range_with_len 0 n) ≡ []
    nothing n = nothing_from 0 n
