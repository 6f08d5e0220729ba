-- Counts and tests over the numbers from 0 on.
use Rattle.std.proofs.Common.{◌≡◌, ℕ, zero, suc, ◌+◌, ◌<◌, ◌≤◌, Bool, true, false, cond, ◌||◌, List, [], ◌∷◌, ◌++◌, length, get_or, take, drop, refl, ap, ◌∙◌, arith, ⊎_elim}
use Rattle.std.specs.List.{sum_by, count_by, range_with_len, list_any}
use Rattle.std.proofs.lemmas.List.Sums.{sum_by_push}
use Rattle.std.proofs.lemmas.List.{take-append-le, take_all}
use Rattle.std.proofs.lemmas.List.FromFn.{fill_by_all}
use Rattle.std.proofs.lemmas.List.Folds.{fold-map}
use Rattle.std.proofs.lemmas.Bool.{cases_eq}

range_more : (a n : ℕ) → range_with_len a (suc n) ≡ range_with_len a n ++ (a + n) ∷ []
range_more a zero = let e : a ≡ a + 0 = omega arith in ap (λ k. k ∷ []) e
range_more a (suc n) = let e : a + 1 + n ≡ a + suc n = omega arith in ap (λ r. a ∷ r) (rw e at (range_more (a + 1) n))

-- how many of the first n numbers pass
abbrev pub count_to : (ℕ → Bool) → ℕ → ℕ
count_to p n = count_by p (range_with_len 0 n)

pub count_more : (p : ℕ → Bool) (n : ℕ) → count_to p (suc n) ≡ count_to p n + cond (p n) 1 0
count_more p n =
    let e : 0 + n ≡ n = omega arith in
    ap (λ r. count_by p r) (rw e at (range_more 0 n)) ∙ sum_by_push (λ k. cond (p k) 1 0) (range_with_len 0 n) n

pub count_same : (p q : ℕ → Bool) (n : ℕ) → ((k : ℕ) → k < n → p k ≡ q k) → count_to p n ≡ count_to q n
count_same p q zero h = refl
count_same p q (suc n) h =
    let e : cond {A = ℕ} (p n) 1 0 ≡ cond (q n) 1 0 = ap (λ b. cond b 1 0) (h n (omega arith)) in
    omega (arith, count_more p n, count_more q n, count_same p q n (λ k l. h k (omega arith)), e)

-- one number more passes
pub count_changed : (p q : ℕ → Bool) (j n : ℕ) → j < n → ((k : ℕ) → (k ≡ j → ⊥) → p k ≡ q k) → p j ≡ true → count_to p n ≡ count_to q n + cond (q j) 0 1
count_changed p q j zero h same holds = absurd (omega arith)
count_changed p q j (suc n) h same holds =
    ⊎_elim
    (λ (here : n ≡ j).
    let before = count_same p q n (λ k l. same k (λ e. omega arith)) in
    let now : cond {A = ℕ} (p n) 1 0 ≡ 1 = rw here (rw holds refl) in
    let was : cond {A = ℕ} (q n) 1 0 + cond (q j) 0 1 ≡ 1 = rw here (flips (q j)) in
    omega (arith, count_more p n, count_more q n, before, now, was))
    (λ (there : n ≡ j → ⊥).
    let before = count_changed p q j n (omega (arith, there)) same holds in
    let e : cond {A = ℕ} (p n) 1 0 ≡ cond (q n) 1 0 = ap (λ b. cond b 1 0) (same n there) in
    omega (arith, count_more p n, count_more q n, before, e))
    (cases_eq n j)
  where
    flips : (b : Bool) → cond {A = ℕ} b 1 0 + cond b 0 1 ≡ 1
    flips true = refl
    flips false = refl

any_same_from : (p q : ℕ → Bool) (a n : ℕ) → ((k : ℕ) → a ≤ k → k < a + n → p k ≡ q k) → list_any p (range_with_len a n) ≡ list_any q (range_with_len a n)
any_same_from p q a zero h = refl
any_same_from p q a (suc n) h =
    let rest = any_same_from p q (a + 1) n (λ k g l. h k (omega arith) (omega arith)) in
    ap (λ b. b || list_any p (range_with_len (a + 1) n)) (h a (omega arith) (omega arith)) ∙ ap (λ b. q a || b) rest

pub any_same : (p q : ℕ → Bool) (n : ℕ) → ((k : ℕ) → k < n → p k ≡ q k) → list_any p (range_with_len 0 n) ≡ list_any q (range_with_len 0 n)
any_same p q n h = any_same_from p q 0 n (λ k g l. h k (omega arith))

any_never : (a n : ℕ) → list_any (λ (_ : ℕ). false) (range_with_len a n) ≡ false
any_never a zero = refl
any_never a (suc n) = any_never (a + 1) n

pub any_none : (p : ℕ → Bool) (n : ℕ) → ((k : ℕ) → k < n → p k ≡ false) → list_any p (range_with_len 0 n) ≡ false
any_none p n h = any_same p (λ _. false) n h ∙ any_never 0 n

any_at_from : (p : ℕ → Bool) (a n k : ℕ) → a ≤ k → k < a + n → p k ≡ true → list_any p (range_with_len a n) ≡ true
any_at_from p a zero k g l holds = absurd (omega arith)
any_at_from p a (suc n) k g l holds =
    ⊎_elim
    (λ (here : k ≡ a). let e : p a ≡ true = rw here at holds in rw e refl)
    (λ (there : k ≡ a → ⊥). let e = any_at_from p (a + 1) n k (omega (arith, there)) (omega arith) holds in ap (λ b. p a || b) e ∙ or-true (p a))
    (cases_eq k a)
  where
    or-true : (b : Bool) → (b || true) ≡ true
    or-true true = refl
    or-true false = refl

pub any_at : (p : ℕ → Bool) (n k : ℕ) → k < n → p k ≡ true → list_any p (range_with_len 0 n) ≡ true
any_at p n k l holds = any_at_from p 0 n k (omega arith) (omega arith) holds

pub sum_same : (f g : ℕ → ℕ) (n : ℕ) → ((k : ℕ) → k < n → f k ≡ g k) → sum_by f (range_with_len 0 n) ≡ sum_by g (range_with_len 0 n)
sum_same f g zero h = refl
sum_same f g (suc n) h =
    let e : 0 + n ≡ n = omega arith in
    let last = rw e at (range_more 0 n) in
    let more_f = ap (λ r. sum_by f r) last ∙ sum_by_push f (range_with_len 0 n) n in
    let more_g = ap (λ r. sum_by g r) last ∙ sum_by_push g (range_with_len 0 n) n in
    omega (arith, more_f, more_g, sum_same f g n (λ k l. h k (omega arith)), h n (omega arith))

-- a sum over a list, place by place
pub sum_by-places : {X : Type 0} (f : X → ℕ) (xs : List X) (d : X) → sum_by f xs ≡ sum_by (λ k. f (get_or xs k d)) (range_with_len 0 (length xs))
sum_by-places f xs d =
    ap (λ r. sum_by f r) (fill_by_all (λ k. get_or xs k d) xs (length xs) d refl (λ k l. refl))
    ∙ fold-map (λ a x. a + f x) (λ k. get_or xs k d) 0 (range_with_len 0 (length xs))

-- a list of the same length that is written over another
pub written_over : {X : Type 0} (old new : List X) (n : ℕ) → length old ≡ n → length new ≡ n → take n (new ++ drop (length new) old) ≡ new
written_over old new n a b = take-append-le n new (drop (length new) old) (omega arith) ∙ take_all n new (omega arith)
