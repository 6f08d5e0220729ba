-- The number that digits write, in two parts, and where the first digit other than 0 stands.
use Rattle.std.proofs.Common.{◌≡◌, ℕ, zero, suc, ◌+◌, ◌*◌, ◌^◌, ◌<◌, Bool, true, false, cond, eqb, List, [], ◌∷◌, ◌++◌, length, get_or, Option, None, Some, refl, ◌∙◌, arith}
use Rattle.std.specs.Option.{option_map}
use Rattle.std.specs.Char.{digit_value}
use Rattle.std.specs.Str.Parse.{AllDigits, digits_value, digits_value_after}
use Rattle.std.proofs.Math.Nat.{pow-suc}
use Rattle.std.proofs.lemmas.Bool.{eqb-true, eqb-false}
use Rattle.std.proofs.lemmas.Str.{digit_value_digit}
use Rattle.std.proofs.lemmas.Str.Parse.{digit_from_value}
use Rattle.decimal_text.specs.Reading.{first_not_zero}
use Rattle.decimal_text.proofs.TenPowers.{ten_some}

pub after_append : (n : ℕ) (xs ys : List ℕ) → digits_value_after 10 n (xs ++ ys) ≡ digits_value_after 10 (digits_value_after 10 n xs) ys
after_append n [] ys = refl
after_append n (x ∷ xs) ys = after_append (n * 10 + digit_value x) xs ys

-- digits behind n add a power of ten for each
pub after_is : (n : ℕ) (ds : List ℕ) → digits_value_after 10 n ds ≡ n * 10 ^ length ds + digits_value 10 ds
after_is n [] = omega arith
after_is n (c ∷ cs) =
    let there = after_is (n * 10 + digit_value c) cs in
    let here = after_is (0 * 10 + digit_value c) cs in
    let p = pow-suc 10 (length cs) in
    rw (there, here, p) (omega arith)

pub value_append : (xs ys : List ℕ) → digits_value 10 (xs ++ ys) ≡ digits_value 10 xs * 10 ^ length ys + digits_value 10 ys
value_append xs ys = after_append 0 xs ys ∙ after_is (digits_value 10 xs) ys

-- what the first digit other than 0 tells
abbrev pub FirstNotZero : List ℕ → Option ℕ → Type 0
FirstNotZero bs None = digits_value 10 bs ≡ 0
FirstNotZero bs (Some j) = (j < length bs) × (get_or bs j 0 ≡ 48 → ⊥) × ((k : ℕ) → k < j → get_or bs k 0 ≡ 48) × (AllDigits 10 bs → 0 < digits_value 10 bs)

behind_zero : (b : ℕ) (bs : List ℕ) (o : Option ℕ) → b ≡ 48 → FirstNotZero bs o → FirstNotZero (b ∷ bs) (option_map (λ k. suc k) o)
behind_zero b bs None e h = rw e h
behind_zero b bs (Some j) e h = (omega (arith, h.0), h.1, first, λ ds. rw e (h.3 ds.1))
  where
    first : (k : ℕ) → k < suc j → get_or (b ∷ bs) k 0 ≡ 48
    first zero lt = e
    first (suc k) lt = h.2 k (omega arith)

some_more : (d b : ℕ) → d + 48 ≡ b → (b ≡ 48 → ⊥) → 0 < d
some_more zero b e ne = absurd (ne (omega arith))
some_more (suc d) b e ne = omega arith

digit_some : (b : ℕ) → (b ≡ 48 → ⊥) → digit_value b < 10 → 0 < digit_value b
digit_some b ne lt = some_more (digit_value b) b (digit_value_digit b (digit_from_value b lt)) ne

value_some : (b : ℕ) (bs : List ℕ) → 0 < digit_value b → 0 < digits_value 10 (b ∷ bs)
value_some b bs some =
    let e = after_is (0 * 10 + digit_value b) bs in
    let p = ten_some (length bs) in
    rw e (grown (digit_value b) (10 ^ length bs) (digits_value 10 bs) some p)
  where
    grown : (d p v : ℕ) → 0 < d → 0 < p → 0 < (0 * 10 + d) * p + v
    grown zero p v a b = absurd (omega arith)
    grown (suc d) zero v a b = absurd (omega arith)
    grown (suc d) (suc p) v a b = omega arith

by_test : (b : ℕ) (bs : List ℕ) (t : Bool) → eqb b 48 ≡ t → FirstNotZero bs (first_not_zero bs) → FirstNotZero (b ∷ bs) (cond t (option_map (λ k. suc k) (first_not_zero bs)) (Some 0))
by_test b bs true e h = behind_zero b bs (first_not_zero bs) (eqb-true _ _ e) h
by_test b bs false e h = (omega arith, eqb-false _ _ e, λ k lt. absurd (omega arith), λ ds. value_some b bs (digit_some b (eqb-false _ _ e) ds.0))

pub first_not_zero_is : (bs : List ℕ) → FirstNotZero bs (first_not_zero bs)
first_not_zero_is [] = refl
first_not_zero_is (b ∷ bs) = by_test b bs (eqb b 48) refl (first_not_zero_is bs)
