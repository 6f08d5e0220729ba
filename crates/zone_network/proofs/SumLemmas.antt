use Rattle.std.proofs.Common.{◌≡◌, ◌≢◌, ℕ, zero, suc, ◌+◌, ◌*◌, ◌<◌, ◌≤◌, ◌==◌, inl, inr, Bool, true, false, cond, ◌&&◌, not, refl, ap, sym, ◌∙◌, arith, subst, add-one}
use Rattle.std.proofs.lemmas.Bool.{cond-true, cond-false, cases_Bool, cases_eq, cases_lt, eq-eqb, ne_eqb, false≢true}
use Rattle.zone_network.specs.Sums.{NumberSet, sum_where}

pub sum_where-zero : (p : NumberSet) (f : ℕ → ℕ) → sum_where p f 0 ≡ 0
unfolding sum_where
sum_where-zero p f = refl

pub sum_where-suc : (p : NumberSet) (f : ℕ → ℕ) (n : ℕ) → sum_where p f (suc n) ≡ sum_where p f n + cond (p n) (f n) 0
unfolding sum_where
sum_where-suc p f n = refl

-- a loop's step: one number more
pub sum_where-more : (p : NumberSet) (f : ℕ → ℕ) (n : ℕ)
    → sum_where p f (n + 1) ≡ sum_where p f n + cond (p n) (f n) 0
sum_where-more p f n = rw add-one (sum_where-suc p f n)

-- the same sum by another set or other terms, where they agree
pub sum_where-equal : (p q : NumberSet) (f g : ℕ → ℕ) (n : ℕ)
    → ((i : ℕ) → i < n → cond (p i) (f i) 0 ≡ cond (q i) (g i) 0)
    → sum_where p f n ≡ sum_where q g n
sum_where-equal p q f g zero h = sum_where-zero p f ∙ sym (sum_where-zero q g)
sum_where-equal p q f g (suc n) h =
    let before : sum_where p f n ≡ sum_where q g n = sum_where-equal p q f g n (λ i below. h i (omega arith)) in
    omega (arith, sum_where-suc p f n, sum_where-suc q g n, h n (omega arith))

-- the same set, and terms that agree on it
pub sum_where-same : (p : NumberSet) (f g : ℕ → ℕ) (n : ℕ)
    → ((i : ℕ) → i < n → p i ≡ true → f i ≡ g i)
    → sum_where p f n ≡ sum_where p g n
sum_where-same p f g n h =
    sum_where-equal p p f g n
    (λ i below.
    elim (cases_Bool (p i)) [
      | inl holds ↦ omega (arith, cond-true (p i) (f i) 0 holds, cond-true (p i) (g i) 0 holds, h i below holds)
      | inr fails ↦ omega (arith, cond-false (p i) (f i) 0 fails, cond-false (p i) (g i) 0 fails)
    ])

-- term by term at most
pub sum_where-le : (p q : NumberSet) (f g : ℕ → ℕ) (n : ℕ)
    → ((i : ℕ) → i < n → cond (p i) (f i) 0 ≤ cond (q i) (g i) 0)
    → sum_where p f n ≤ sum_where q g n
sum_where-le p q f g zero h = omega (arith, sum_where-zero p f)
sum_where-le p q f g (suc n) h =
    let before : sum_where p f n ≤ sum_where q g n = sum_where-le p q f g n (λ i below. h i (omega arith)) in
    omega (arith, sum_where-suc p f n, sum_where-suc q g n, h n (omega arith))

pub sum_where-mono : (p : NumberSet) (f g : ℕ → ℕ) (n : ℕ)
    → ((i : ℕ) → i < n → p i ≡ true → f i ≤ g i)
    → sum_where p f n ≤ sum_where p g n
sum_where-mono p f g n h =
    sum_where-le p p f g n
    (λ i below.
    elim (cases_Bool (p i)) [
      | inl holds ↦ omega (arith, cond-true (p i) (f i) 0 holds, cond-true (p i) (g i) 0 holds, h i below holds)
      | inr fails ↦ omega (arith, cond-false (p i) (f i) 0 fails)
    ])

-- over a part of a set
pub sum_where-part : (p q : NumberSet) (f : ℕ → ℕ) (n : ℕ)
    → ((i : ℕ) → i < n → p i ≡ true → q i ≡ true)
    → sum_where p f n ≤ sum_where q f n
sum_where-part p q f n h =
    sum_where-le p q f f n
    (λ i below.
    elim (cases_Bool (p i)) [
      | inl holds ↦ omega (arith, cond-true (p i) (f i) 0 holds, cond-true (q i) (f i) 0 (h i below holds))
      | inr fails ↦ omega (arith, cond-false (p i) (f i) 0 fails)
    ])

-- terms that are sums
pub sum_where-add : (p : NumberSet) (f g : ℕ → ℕ) (n : ℕ)
    → sum_where p (λ i. f i + g i) n ≡ sum_where p f n + sum_where p g n
sum_where-add p f g zero =
    omega (arith, sum_where-zero p (λ i. f i + g i), sum_where-zero p f, sum_where-zero p g)
sum_where-add p f g (suc n) =
    let before : sum_where p (λ i. f i + g i) n ≡ sum_where p f n + sum_where p g n = sum_where-add p f g n in
    let here : cond (p n) (f n + g n) 0 ≡ cond (p n) (f n) 0 + cond (p n) (g n) 0 =
    elim (cases_Bool (p n)) [
      | inl holds ↦ omega (arith, cond-true (p n) (f n + g n) 0 holds, cond-true (p n) (f n) 0 holds, cond-true (p n) (g n) 0 holds)
      | inr fails ↦ omega (arith, cond-false (p n) (f n + g n) 0 fails, cond-false (p n) (f n) 0 fails, cond-false (p n) (g n) 0 fails)
    ] in
    omega (arith, sum_where-suc p (λ i. f i + g i) n, sum_where-suc p f n, sum_where-suc p g n)

-- where no number is in the set, or each term is 0
pub sum_where-none : (p : NumberSet) (f : ℕ → ℕ) (n : ℕ)
    → ((i : ℕ) → i < n → p i ≡ true → f i ≡ 0)
    → sum_where p f n ≡ 0
sum_where-none p f zero h = sum_where-zero p f
sum_where-none p f (suc n) h =
    let before : sum_where p f n ≡ 0 = sum_where-none p f n (λ i below holds. h i (omega arith) holds) in
    elim (cases_Bool (p n)) [
      | inl holds ↦ omega (arith, sum_where-suc p f n, cond-true (p n) (f n) 0 holds, h n (omega arith) holds)
      | inr fails ↦ omega (arith, sum_where-suc p f n, cond-false (p n) (f n) 0 fails)
    ]

-- a term is at most the sum
pub sum_where-term : (p : NumberSet) (f : ℕ → ℕ) (n k : ℕ) → k < n → p k ≡ true → f k ≤ sum_where p f n
sum_where-term p f zero k below holds = absurd (omega arith)
sum_where-term p f (suc n) k below holds =
    elim (cases_eq k n) [
      | inl here ↦
          let at : p n ≡ true = ap p (sym here) ∙ holds in
          omega (arith, sum_where-suc p f n, cond-true (p n) (f n) 0 at, ap f here)
      | inr other ↦ omega (arith, sum_where-suc p f n, sum_where-term p f n k (omega arith) holds)
    ]

-- a bound on the terms bounds the sum
pub sum_where-bound : (p : NumberSet) (f : ℕ → ℕ) (n most : ℕ)
    → ((i : ℕ) → i < n → f i ≤ most)
    → sum_where p f n ≤ most * n
sum_where-bound p f zero most h = omega (arith, sum_where-zero p f)
sum_where-bound p f (suc n) most h =
    let before : sum_where p f n ≤ most * n = sum_where-bound p f n most (λ i below. h i (omega arith)) in
    let here : cond (p n) (f n) 0 ≤ most =
    elim (cases_Bool (p n)) [
      | inl holds ↦ omega (arith, cond-true (p n) (f n) 0 holds, h n (omega arith))
      | inr fails ↦ omega (arith, cond-false (p n) (f n) 0 fails)
    ] in
    omega (arith, sum_where-suc p f n)

-- one term changes, of a number in the set
pub sum_where-changed : (p : NumberSet) (f g : ℕ → ℕ) (n k : ℕ)
    → k < n
    → p k ≡ true
    → ((i : ℕ) → i ≢ k → f i ≡ g i)
    → sum_where p f n + g k ≡ sum_where p g n + f k
sum_where-changed p f g zero k below holds h = absurd (omega arith)
sum_where-changed p f g (suc n) k below holds h =
    elim (cases_eq k n) [
      | inl here ↦
          let at : p n ≡ true = ap p (sym here) ∙ holds in
          let before : sum_where p f n ≡ sum_where p g n = sum_where-same p f g n (λ i less in'. h i (omega arith)) in
          omega (arith, sum_where-suc p f n, sum_where-suc p g n, cond-true (p n) (f n) 0 at, cond-true (p n) (g n) 0 at, ap f here, ap g here)
      | inr other ↦
          let before : sum_where p f n + g k ≡ sum_where p g n + f k =
          sum_where-changed p f g n k (omega arith) holds h in
          let same : cond (p n) (f n) 0 ≡ cond (p n) (g n) 0 =
          ap (λ (x : ℕ). cond (p n) x 0) (h n (λ e. other (sym e))) in
          omega (arith, sum_where-suc p f n, sum_where-suc p g n)
    ]

-- one term changes, of a number outside the set
pub sum_where-outside : (p : NumberSet) (f g : ℕ → ℕ) (n k : ℕ)
    → p k ≡ false
    → ((i : ℕ) → i ≢ k → f i ≡ g i)
    → sum_where p f n ≡ sum_where p g n
sum_where-outside p f g n k fails h =
    sum_where-same p f g n
    (λ i below holds. h i (λ e. false≢true (sym fails ∙ ap p (sym e) ∙ holds)))

-- one term changes, whether or not its number is in the set
pub sum_where-at : (p : NumberSet) (f g : ℕ → ℕ) (n k : ℕ)
    → k < n
    → ((i : ℕ) → i ≢ k → f i ≡ g i)
    → sum_where p f n + cond (p k) (g k) 0 ≡ sum_where p g n + cond (p k) (f k) 0
sum_where-at p f g n k below h =
    elim (cases_Bool (p k)) [
      | inl holds ↦
          omega (arith, sum_where-changed p f g n k below holds h, cond-true (p k) (g k) 0 holds, cond-true (p k) (f k) 0 holds)
      | inr fails ↦
          omega (arith, sum_where-outside p f g n k fails h, cond-false (p k) (g k) 0 fails, cond-false (p k) (f k) 0 fails)
    ]

-- of two sums, where the first is at most the second and each other term of the second is at most that of the
-- first, this term of the first is at most that of the second
pub sum_where-forces : (p : NumberSet) (f g : ℕ → ℕ) (n k : ℕ)
    → k < n
    → p k ≡ true
    → ((i : ℕ) → i < n → i ≢ k → p i ≡ true → g i ≤ f i)
    → sum_where p f n ≤ sum_where p g n
    → f k ≤ g k
sum_where-forces p f g n k below holds h most =
    elim (cases_lt (g k) (f k)) [
      | inl more ↦
          let raised : ℕ → ℕ = λ i. cond (i == k) (f k) (g i) in
          let at : raised k ≡ f k = cond-true (k == k) (f k) (g k) (eq-eqb k k refl) in
          let apart : (i : ℕ) → i ≢ k → g i ≡ raised i =
          λ i other. sym (cond-false (i == k) (f k) (g i) (ne_eqb i k other)) in
          let lifted : sum_where p raised n ≤ sum_where p f n =
          sum_where-mono p raised f n
          (λ i less in'.
          elim (cases_eq i k) [
            | inl here ↦ omega (arith, cond-true (i == k) (f k) (g i) (eq-eqb i k here), ap f here)
            | inr other ↦ omega (arith, apart i other, h i less other in')
          ]) in
          omega (arith, sum_where-changed p g raised n k below holds apart)
      | inr less ↦ less
    ]

-- a sum with one term
pub sum_where-one : (set : NumberSet) (k value n : ℕ)
    → k < n
    → sum_where set (λ z. cond (k == z) value 0) n ≡ cond (set k) value 0
sum_where-one set k value zero below = absurd (omega arith)
sum_where-one set k value (suc n) below =
    elim (cases_eq k n) [
      | inl here ↦
          let before : sum_where set (λ z. cond (k == z) value 0) n ≡ 0 =
          sum_where-none set (λ z. cond (k == z) value 0) n
          (λ z less in'. cond-false (k == z) value 0 (ne_eqb k z (λ e. absurd (omega arith)))) in
          let last : cond (set n) (cond (k == n) value 0) 0 ≡ cond (set k) value 0 =
          ap (λ (x : ℕ). cond (set n) x 0) (cond-true (k == n) value 0 (eq-eqb k n here))
          ∙ ap (λ (x : ℕ). cond (set x) value 0) (sym here) in
          omega (arith, sum_where-suc set (λ z. cond (k == z) value 0) n)
      | inr other ↦
          let before : sum_where set (λ z. cond (k == z) value 0) n ≡ cond (set k) value 0 =
          sum_where-one set k value n (omega arith) in
          let nothing : cond (k == n) value 0 ≡ 0 = cond-false (k == n) value 0 (ne_eqb k n other) in
          let last : cond (set n) (cond (k == n) value 0) 0 ≡ 0 =
          ap (λ (x : ℕ). cond (set n) x 0) nothing ∙ cond_same (set n) 0 in
          omega (arith, sum_where-suc set (λ z. cond (k == z) value 0) n)
    ]
  where
    cond_same : (b : Bool) (x : ℕ) → cond b x x ≡ x
    cond_same true x = refl
    cond_same false x = refl

-- a sum over a set of places of sums over what stands there is one sum
pub sum_where-regroup : (set : NumberSet) (place : ℕ → ℕ) (f : ℕ → ℕ) (places n : ℕ)
    → ((i : ℕ) → i < n → place i < places)
    → sum_where set (λ z. sum_where (λ i. place i == z) f n) places ≡ sum_where (λ i. set (place i)) f n
sum_where-regroup set place f places zero h =
    sum_where-none set (λ z. sum_where (λ i. place i == z) f 0) places (λ z below in'. sum_where-zero (λ i. place i == z) f)
    ∙ sym (sum_where-zero (λ i. set (place i)) f)
sum_where-regroup set place f places (suc n) h =
    let before : sum_where set (λ z. sum_where (λ i. place i == z) f n) places ≡ sum_where (λ i. set (place i)) f n =
    sum_where-regroup set place f places n (λ i below. h i (omega arith)) in
    let apart : sum_where set (λ z. sum_where (λ i. place i == z) f (suc n)) places
    ≡ sum_where set (λ z. sum_where (λ i. place i == z) f n) places + sum_where set (λ z. cond (place n == z) (f n) 0) places =
    sum_where-same set (λ z. sum_where (λ i. place i == z) f (suc n))
    (λ z. sum_where (λ i. place i == z) f n + cond (place n == z) (f n) 0) places
    (λ z below in'. sum_where-suc (λ i. place i == z) f n)
    ∙ sum_where-add set (λ z. sum_where (λ i. place i == z) f n) (λ z. cond (place n == z) (f n) 0) places in
    let last : sum_where set (λ z. cond (place n == z) (f n) 0) places ≡ cond (set (place n)) (f n) 0 =
    sum_where-one set (place n) (f n) places (h n (omega arith)) in
    omega (arith, sum_where-suc (λ i. set (place i)) f n)

-- of one term
crossing_term : (a b : Bool) (x most : ℕ) → x ≤ most → cond b x 0 ≤ cond a x 0 + cond (not a && b) most 0
crossing_term true true x most le = omega arith
crossing_term true false x most le = omega arith
crossing_term false true x most le = omega arith
crossing_term false false x most le = omega arith

-- what f has over q is at most what it has over p and the limits of what is in q and not in p
pub sum_where-crossing : (p q : NumberSet) (f limit : ℕ → ℕ) (n : ℕ)
    → ((i : ℕ) → i < n → f i ≤ limit i)
    → sum_where q f n ≤ sum_where p f n + sum_where (λ i. not (p i) && q i) limit n
sum_where-crossing p q f limit zero h = omega (arith, sum_where-zero q f)
sum_where-crossing p q f limit (suc n) h =
    let before : sum_where q f n ≤ sum_where p f n + sum_where (λ i. not (p i) && q i) limit n =
    sum_where-crossing p q f limit n (λ i below. h i (omega arith)) in
    let here : cond (q n) (f n) 0 ≤ cond (p n) (f n) 0 + cond (not (p n) && q n) (limit n) 0 =
    crossing_term (p n) (q n) (f n) (limit n) (h n (omega arith)) in
    omega (arith, sum_where-suc q f n, sum_where-suc p f n, sum_where-suc (λ i. not (p i) && q i) limit n)

-- the same as an equation, where what enters is at its limit and nothing leaves
pub sum_where-crossing_full : (p q : NumberSet) (f limit : ℕ → ℕ) (n : ℕ)
    → ((i : ℕ) → i < n → p i ≡ false → q i ≡ true → f i ≡ limit i)
    → ((i : ℕ) → i < n → p i ≡ true → q i ≡ false → f i ≡ 0)
    → sum_where q f n ≡ sum_where p f n + sum_where (λ i. not (p i) && q i) limit n
sum_where-crossing_full p q f limit zero full empty =
    omega (arith, sum_where-zero q f, sum_where-zero p f, sum_where-zero (λ i. not (p i) && q i) limit)
sum_where-crossing_full p q f limit (suc n) full empty =
    let before : sum_where q f n ≡ sum_where p f n + sum_where (λ i. not (p i) && q i) limit n =
    sum_where-crossing_full p q f limit n (λ i below. full i (omega arith)) (λ i below. empty i (omega arith)) in
    let here : cond (q n) (f n) 0 ≡ cond (p n) (f n) 0 + cond (not (p n) && q n) (limit n) 0 =
    full_term (p n) (q n) (f n) (limit n) (full n (omega arith)) (empty n (omega arith)) in
    omega (arith, sum_where-suc q f n, sum_where-suc p f n, sum_where-suc (λ i. not (p i) && q i) limit n)
  where
    full_term : (a b : Bool) (x most : ℕ)
        → (a ≡ false → b ≡ true → x ≡ most)
        → (a ≡ true → b ≡ false → x ≡ 0)
        → cond b x 0 ≡ cond a x 0 + cond (not a && b) most 0
    full_term true true x most full empty = omega arith
    full_term true false x most full empty = omega (arith, empty refl refl)
    full_term false true x most full empty = omega (arith, full refl refl)
    full_term false false x most full empty = omega arith

-- where the sums are equal, what enters is at its limit and nothing leaves
pub sum_where-crossing_forced : (p q : NumberSet) (f limit : ℕ → ℕ) (n : ℕ)
    → ((i : ℕ) → i < n → f i ≤ limit i)
    → sum_where p f n + sum_where (λ i. not (p i) && q i) limit n ≤ sum_where q f n
    → (i : ℕ)
    → i < n
    → (p i ≡ false → q i ≡ true → f i ≡ limit i) × (p i ≡ true → q i ≡ false → f i ≡ 0)
sum_where-crossing_forced p q f limit zero h most i below = absurd (omega arith)
sum_where-crossing_forced p q f limit (suc n) h most i below =
    let before : sum_where q f n ≤ sum_where p f n + sum_where (λ j. not (p j) && q j) limit n =
    sum_where-crossing p q f limit n (λ j less. h j (omega arith)) in
    let here : cond (q n) (f n) 0 ≤ cond (p n) (f n) 0 + cond (not (p n) && q n) (limit n) 0 =
    crossing_term (p n) (q n) (f n) (limit n) (h n (omega arith)) in
    let all : sum_where p f n + cond (p n) (f n) 0 + (sum_where (λ j. not (p j) && q j) limit n + cond (not (p n) && q n) (limit n) 0)
    ≤ sum_where q f n + cond (q n) (f n) 0 =
    omega (arith, sum_where-suc q f n, sum_where-suc p f n, sum_where-suc (λ j. not (p j) && q j) limit n) in
    elim (cases_eq i n) [
      | inl last ↦
          subst (λ (k : ℕ). (p k ≡ false → q k ≡ true → f k ≡ limit k) × (p k ≡ true → q k ≡ false → f k ≡ 0)) (sym last)
          (forced_term (p n) (q n) (f n) (limit n) (h n (omega arith)) (omega arith))
      | inr other ↦ sum_where-crossing_forced p q f limit n (λ j less. h j (omega arith)) (omega arith) i (omega arith)
    ]
  where
    forced_term : (a b : Bool) (x most : ℕ)
        → x ≤ most
        → cond a x 0 + cond (not a && b) most 0 ≤ cond b x 0
        → (a ≡ false → b ≡ true → x ≡ most) × (a ≡ true → b ≡ false → x ≡ 0)
    forced_term true true x most within le = (λ p q. absurd (false≢true (sym p)), λ p q. absurd (false≢true (sym q)))
    forced_term true false x most within le = (λ p q. absurd (false≢true (sym p)), λ p q. omega arith)
    forced_term false true x most within le = (λ p q. omega arith, λ p q. absurd (false≢true p))
    forced_term false false x most within le = (λ p q. absurd (false≢true q), λ p q. absurd (false≢true p))
