use Rattle.std.proofs.Common.{◌≡◌, ℕ, zero, suc, ◌+◌, ◌-◌, ◌*◌, ◌/◌, ◌<◌, ◌≤◌, Bool, true, false, leb, Some, None, sym, ap, ◌∙◌, arith, ⊎_elim}
use Rattle.std.proofs.lemmas.Bool.{cases_eq, cases_lt, le-leb, lt-leb, eq-eqb, ne_eqb, cond-true, cond-false}
use Rattle.std.proofs.lemmas.Nat.{mul-le, le-div, div-add-mod'}
use Rattle.ra_base.specs.declared.limits.TheConstants.{MOST_SAMPLES}
use Rattle.sample_totals.specs.declared.estimates.Sums.{Sums}
use Rattle.sample_totals.specs.Estimates.{AreSums, FitBoth, greatest_up_to, spread_of, weight_of, error_of, IsGreatestWithin}

-- squares are in the order of their roots
root-le : (a b : ℕ) → a * a < (b + 1) * (b + 1) → a ≤ b
root-le a b h =
    ⊎_elim
    (λ (over : b < a). absurd (omega (arith, mul-le (b + 1) (b + 1) a a (omega arith) (omega arith))))
    (λ (le : a ≤ b). le)
    (cases_lt b a)

-- the whole root of a quotient is the greatest number whose square, times the divisor, isn't above the dividend
quotient-root : (x w e : ℕ) → 0 < w → e * e ≤ x / w → x / w < (e + 1) * (e + 1) → (e * e * w ≤ x) × ((g : ℕ) → g * g * w ≤ x → g ≤ e)
quotient-root x w e some low high = (
  omega (arith, mul-le (e * e) w (x / w) w low (omega arith), div-add-mod' x w),
  λ g h. root-le g e (let q : g * g ≤ x / w = le-div (g * g) x w some h in omega (arith, q)),
)

weight-pos : (n : ℕ) → 1 < n → 0 < weight_of n
weight-pos n h = omega (arith, mul-le 1 1 n n (omega arith) (omega arith), mul-le 1 1 (n * n) (n - 1) (omega (arith, mul-le 1 1 n n (omega arith) (omega arith))) (omega arith))

pub IsGreatestWithin-root : (sums : Sums) (n e : ℕ) → 1 < n → e * e ≤ spread_of sums n / weight_of n → spread_of sums n / weight_of n < (e + 1) * (e + 1) → IsGreatestWithin sums n e
IsGreatestWithin-root sums n e more low high =
    let root = quotient-root (spread_of sums n) (weight_of n) e (weight-pos n more) low high in
    record { within = root.0; greatest = root.1 }

greatest-is : (test : ℕ → Bool) (most e : ℕ) → e ≤ most → (0 < e → test e ≡ true) → ((g : ℕ) → e < g → g ≤ most → test g ≡ false) → greatest_up_to most test ≡ e
unfolding greatest_up_to
greatest-is test zero e le holds above = omega arith
greatest-is test (suc n) e le holds above =
    ⊎_elim
    (λ (here : e ≡ suc n). let t : test (suc n) ≡ true = rw here at (holds (omega arith)) in cond-true _ _ _ t ∙ sym here)
    (λ (there : e ≡ suc n → ⊥).
    let f : test (suc n) ≡ false = above (suc n) (omega (arith, there)) (omega arith) in
    cond-false _ _ _ f ∙ greatest-is test n e (omega (arith, there)) holds (λ g b l. above g b (omega arith)))
    (cases_eq e (suc n))

pub error-one : (sums : Sums) (n : ℕ) → n ≡ 1 → error_of sums n ≡ None
unfolding error_of
error-one sums n e = cond-true _ _ _ (eq-eqb n 1 e)

pub error-is : (sums : Sums) (n e : ℕ) → 1 < n → IsGreatestWithin sums n e → Some e ≡ error_of sums n
unfolding error_of
error-is sums n e more is =
    let x = spread_of sums n in
    let w = weight_of n in
    let some : 0 < w = weight-pos n more in
    let le : e ≤ x = ⊎_elim
    (λ (z : e ≡ 0). omega arith)
    (λ (nz : e ≡ 0 → ⊥). let big : e ≤ e * e * w = omega (arith, mul-le e 1 e e (omega arith) (omega (arith, nz)), mul-le (e * e) 1 (e * e) w (omega arith) some) in omega (arith, big, is.within))
    (cases_eq e 0) in
    let test = λ (g : ℕ). leb (g * g * w) x in
    let found : greatest_up_to x test ≡ e = greatest-is test x e le (λ h. le-leb _ _ is.within)
    (λ g b l. lt-leb _ _ (⊎_elim (λ (over : x < g * g * w). over) (λ (in_reach : g * g * w ≤ x). absurd (omega (arith, is.greatest g in_reach))) (cases_lt x (g * g * w)))) in
    sym (cond-false _ _ _ (ne_eqb n 1 (λ q. omega arith)) ∙ ap (λ k. Some k) found)

-- ---- sums of one more number
four : (u v : ℕ) → 4 * (u * v) ≤ (u + v) * (u + v)
four u v =
    ⊎_elim
    (λ (l : u < v). let d = v - u in let e : v ≡ u + d = omega arith in rw e (omega arith))
    (λ (g : v ≤ u). let d = u - v in let e : u ≡ v + d = omega arith in rw e (omega arith))
    (cases_lt u v)

sq-le : (a b : ℕ) → a * a ≤ b * b → a ≤ b
sq-le a b h = root-le a b (omega arith)

spread-more : (n t q x : ℕ) → t * t ≤ n * q → (t + x) * (t + x) ≤ (n + 1) * (q + x * x)
spread-more n t q x h =
    let twice : 2 * t * x ≤ n * (x * x) + q = sq-le (2 * t * x) (n * (x * x) + q) (
    let below : (x * x) * (t * t) ≤ (x * x) * (n * q) = mul-le (x * x) (t * t) (x * x) (n * q) (omega arith) h in
    omega (arith, four (n * (x * x)) q, below)) in
    omega (arith, twice, h)

pub AreSums-more : (sums : Sums) (n x : ℕ) → AreSums sums n → x ≤ 1756800000 → AreSums (record { total = sums.total + x; squares = sums.squares + x * x }) (n + 1)
AreSums-more sums n x are small = record {
  total = omega (arith, are.total);
  squares = omega (arith, are.squares, mul-le x x 1756800000 1756800000 small small);
  spread = spread-more n sums.total sums.squares x are.spread;
}

pub AreSums-none : AreSums (record { total = 0; squares = 0 }) 0
AreSums-none = record { total = omega arith; squares = omega arith; spread = omega arith }

-- ---- sums of two lots
pub AreSums-joined : (sums more : Sums) (n m : ℕ) → AreSums sums n → AreSums more m → AreSums (record { total = sums.total + more.total; squares = sums.squares + more.squares }) (n + m)
AreSums-joined sums more n m are more_are = record {
  total = omega (arith, are.total, more_are.total);
  squares = omega (arith, are.squares, more_are.squares);
  spread = spread-joined n m sums.total more.total sums.squares more.squares are.spread more_are.spread;
}
  where
    spread-joined : (a b s t q r : ℕ) → s * s ≤ a * q → t * t ≤ b * r → (s + t) * (s + t) ≤ (a + b) * (q + r)
    spread-joined a b s t q r h k =
        let twice : 2 * s * t ≤ a * r + b * q = sq-le (2 * s * t) (a * r + b * q) (
        let below : (s * s) * (t * t) ≤ (a * q) * (b * r) = mul-le (s * s) (t * t) (a * q) (b * r) h k in
        omega (arith, four (a * r) (b * q), below)) in
        omega (arith, twice, h, k)

pub FitBoth-sums : (sums more : Sums) (n m : ℕ) → AreSums sums n → AreSums more m → n + m ≤ MOST_SAMPLES → FitBoth sums more
FitBoth-sums sums more n m are more_are few = record {
  total = omega (arith, are.total, more_are.total);
  squares = omega (arith, are.squares, more_are.squares);
}
