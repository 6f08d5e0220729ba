-- What ranges of samples weigh, and that weights tell them apart.
use Rattle.std.proofs.Common.{◌≡◌, ℕ, zero, suc, ◌+◌, ◌*◌, ◌<◌, ◌≤◌, ◌==◌, inl, inr, Bool, true, false, cond, List, [], ◌∷◌, ◌++◌, nat_lt, refl, ap, sym, ◌∙◌, arith}
use Rattle.std.proofs.Math.Nat.{zero-mul}
use Rattle.std.specs.List.{range_with_len}
use Rattle.std.proofs.lemmas.Bool.{cases_lt, cases_eq, eq-eqb, ne_eqb, lt-ltb}
use Rattle.std.proofs.lemmas.Bool.Decides.{nat_tests}
use Rattle.std.proofs.lemmas.List.Sums.{sum_by-cons, sum_by-append}
use Rattle.ra_base.specs.declared.limits.TheConstants.{MOST_SAMPLES}
use Rattle.campaign_core.specs.declared.run.SampleRange.{SampleRange}
use Rattle.campaign_core.specs.Ranges.{range, has_sample, times, weight_of, total, AreSame, AreDisjoint}

-- ---- one range

pub weight-none : (w : ℕ → ℕ) (a : ℕ) → weight_of w (range a 0) ≡ 0
unfolding weight_of
weight-none w a = refl

pub weight-more : (w : ℕ → ℕ) (a n : ℕ) → weight_of w (range a (suc n)) ≡ w a + weight_of w (range (a + 1) n)
unfolding weight_of
weight-more w a n = sum_by-cons w a (range_with_len (a + 1) n)

-- a range that is cut in two
pub weight-cut : (w : ℕ → ℕ) (a m n : ℕ) → weight_of w (range a (m + n)) ≡ weight_of w (range a m) + weight_of w (range (a + m) n)
weight-cut w a zero n = rw (weight-none w a) (let e : 0 + n ≡ n = omega arith in let f : a + 0 ≡ a = omega arith in let g : 0 + weight_of w (range a n) ≡ weight_of w (range a n) = omega arith in rw (e, f) (sym g))
weight-cut w a (suc m) n =
    let e : suc m + n ≡ suc (m + n) = omega arith in
    let f : a + suc m ≡ (a + 1) + m = omega arith in
    let step = weight-cut w (a + 1) m n in
    rw (e, f) (omega (arith, weight-more w a (m + n), weight-more w a m, step))

-- ---- lists of ranges

pub total-nil : (w : ℕ → ℕ) → total w [] ≡ 0
unfolding total
total-nil w = refl

pub total-cons : (w : ℕ → ℕ) (r : SampleRange) (rs : List SampleRange) → total w (r ∷ rs) ≡ weight_of w r + total w rs
unfolding total
total-cons w r rs = sum_by-cons (weight_of w) r rs

pub total-append : (w : ℕ → ℕ) (xs ys : List SampleRange) → total w (xs ++ ys) ≡ total w xs + total w ys
unfolding total
total-append w xs ys = sum_by-append (weight_of w) xs ys

pub total-one : (w : ℕ → ℕ) (r : SampleRange) → total w (r ∷ []) ≡ weight_of w r
total-one w r = omega (arith, total-cons w r [], total-nil w)

pub total_push : (w : ℕ → ℕ) (xs : List SampleRange) (r : SampleRange) → total w (xs ++ r ∷ []) ≡ total w xs + weight_of w r
total_push w xs r = omega (arith, total-append w xs (r ∷ []), total-one w r)

pub times-nil : (n : ℕ) → times n [] ≡ 0
unfolding times
times-nil n = refl

pub times-cons : (n : ℕ) (r : SampleRange) (rs : List SampleRange) → times n (r ∷ rs) ≡ cond (has_sample n r) 1 0 + times n rs
unfolding times
times-cons n r rs = sum_by-cons (λ (s : SampleRange). cond (has_sample n s) 1 0) r rs

pub times-append : (n : ℕ) (xs ys : List SampleRange) → times n (xs ++ ys) ≡ times n xs + times n ys
unfolding times
times-append n xs ys = sum_by-append (λ (s : SampleRange). cond (has_sample n s) 1 0) xs ys

-- ---- times are weights, and weights are times

-- 1 at one sample, 0 elsewhere
abbrev pub only : ℕ → ℕ → ℕ
only n = λ m. cond (m == n) 1 0

only_none : (n a c : ℕ) → n < a → weight_of (only n) (range a c) ≡ 0
only_none n a zero h = weight-none (only n) a
only_none n a (suc c) h =
    let ne : a ≡ n → ⊥ = λ e. omega arith in
    let here : only n a ≡ 0 = ap (λ b. cond b 1 0) (ne_eqb a n ne) in
    omega (arith, weight-more (only n) a c, only_none n (a + 1) c (omega arith), here)

pub weight-only : (n a c : ℕ) → weight_of (only n) (range a c) ≡ cond (has_sample n (range a c)) 1 0
weight-only n a zero = rw (weight-none (only n) a) (grind (arith, nat_tests))
weight-only n a (suc c) =
    elim (cases_eq a n) [
      | inl e ↦
          let here : only n a ≡ 1 = ap (λ b. cond b 1 0) (eq-eqb a n e) in
          let rest = only_none n (a + 1) c (omega arith) in
          let inside : has_sample n (range a (suc c)) ≡ true = grind (arith, nat_tests) in
          let weighs : weight_of (only n) (range a (suc c)) ≡ 1 = omega (arith, weight-more (only n) a c) in
          weighs ∙ sym (ap (λ b. cond b 1 0) inside)
      | inr ne ↦
          let here : only n a ≡ 0 = ap (λ b. cond b 1 0) (ne_eqb a n ne) in
          let rest = weight-only n (a + 1) c in
          let same : has_sample n (range (a + 1) c) ≡ has_sample n (range a (suc c)) = grind (arith, nat_tests) in
          let weighs : weight_of (only n) (range a (suc c)) ≡ weight_of (only n) (range (a + 1) c) = omega (arith, weight-more (only n) a c) in
          weighs ∙ (rest ∙ ap (λ b. cond b 1 0) same)
    ]

pub times-total : (n : ℕ) (rs : List SampleRange) → times n rs ≡ total (only n) rs
times-total n [] = times-nil n ∙ sym (total-nil (only n))
times-total n (r ∷ rs) = omega (arith, times-cons n r rs, total-cons (only n) r rs, times-total n rs, weight-only n r.first r.count)

-- the same samples, each as often
pub times_same : (xs ys : List SampleRange) → AreSame xs ys → (n : ℕ) → times n xs ≡ times n ys
times_same xs ys same n = times-total n xs ∙ (same (only n) ∙ sym (times-total n ys))

-- the numbers below n, weighed and added up
pub sum_below : (ℕ → ℕ) → ℕ → ℕ
sum_below f zero = 0
sum_below f (suc n) = sum_below f n + f n

pub below-zero : (f : ℕ → ℕ) → sum_below f 0 ≡ 0
unfolding sum_below
below-zero f = refl

pub below-suc : (f : ℕ → ℕ) (n : ℕ) → sum_below f (suc n) ≡ sum_below f n + f n
unfolding sum_below
below-suc f n = refl

pub below-none : (f : ℕ → ℕ) (n : ℕ) → ((i : ℕ) → i < n → f i ≡ 0) → sum_below f n ≡ 0
below-none f zero h = below-zero f
below-none f (suc n) h = omega (arith, below-suc f n, below-none f n (λ i l. h i (omega arith)), h n (omega arith))

pub below-both : (f g k : ℕ → ℕ) (n : ℕ) → ((i : ℕ) → k i ≡ f i + g i) → sum_below k n ≡ sum_below f n + sum_below g n
below-both f g k zero h = omega (arith, below-zero f, below-zero g, below-zero k)
below-both f g k (suc n) h = omega (arith, below-suc f n, below-suc g n, below-suc k n, below-both f g k n h, h n)

pub below-same : (f g : ℕ → ℕ) (n : ℕ) → ((i : ℕ) → i < n → f i ≡ g i) → sum_below f n ≡ sum_below g n
below-same f g zero h = below-zero f ∙ sym (below-zero g)
below-same f g (suc n) h = omega (arith, below-suc f n, below-suc g n, below-same f g n (λ i l. h i (omega arith)), h n (omega arith))

pub below-only : (f : ℕ → ℕ) (a n : ℕ) → a < n → sum_below (λ i. cond (i == a) (f i) 0) n ≡ f a
below-only f a zero h = absurd (omega arith)
below-only f a (suc n) h =
    elim (cases_eq n a) [
      | inl e ↦
          let none = below-none (λ i. cond (i == a) (f i) 0) n (λ i l. ap (λ b. cond b (f i) 0) (ne_eqb i a (λ q. omega arith))) in
          let here : cond (n == a) (f n) 0 ≡ f a = ap (λ b. cond b (f n) 0) (eq-eqb n a e) ∙ ap f e in
          omega (arith, below-suc (λ i. cond (i == a) (f i) 0) n)
      | inr ne ↦
          let rest = below-only f a n (omega arith) in
          let here : cond (n == a) (f n) 0 ≡ 0 = ap (λ b. cond b (f n) 0) (ne_eqb n a ne) in
          omega (arith, below-suc (λ i. cond (i == a) (f i) 0) n)
    ]

-- a range by the numbers below an end
range_below : (w : ℕ → ℕ) (n a c : ℕ) → a + c ≤ n → sum_below (λ i. cond (has_sample i (range a c)) (w i) 0) n ≡ weight_of w (range a c)
range_below w n a zero h =
    below-none (λ i. cond (has_sample i (range a 0)) (w i) 0) n (λ i l. let no : has_sample i (range a 0) ≡ false = grind (arith, nat_tests) in ap (λ b. cond b (w i) 0) no) ∙ sym (weight-none w a)
range_below w n a (suc c) h =
    let both = below-both (λ i. cond (i == a) (w i) 0) (λ i. cond (has_sample i (range (a + 1) c)) (w i) 0) (λ i. cond (has_sample i (range a (suc c))) (w i) 0) n (λ i. parts i) in
    omega (arith, weight-more w a c, both, below-only w a n (omega arith), range_below w n (a + 1) c (omega arith))
  where
    parts : (i : ℕ) → cond (has_sample i (range a (suc c))) (w i) 0 ≡ cond (i == a) (w i) 0 + cond (has_sample i (range (a + 1) c)) (w i) 0
    parts i = grind (arith, nat_tests)

-- ---- times decide weights

-- no sample of these ranges stands at this number or behind it
abbrev EndsBy : ℕ → List SampleRange → Type 0
EndsBy n [] = Unit {0}
EndsBy n (r ∷ rs) = (r.first + r.count ≤ n) × EndsBy n rs

ends_later : (m n : ℕ) (rs : List SampleRange) → m ≤ n → EndsBy m rs → EndsBy n rs
ends_later m n [] h e = tt
ends_later m n (r ∷ rs) h e = (omega (arith, e.0), ends_later m n rs h e.1)

-- some number ends them all
some_end : (rs : List SampleRange) → (n : ℕ) × EndsBy n rs
some_end [] = (0, tt)
some_end (r ∷ rs) =
    let rest = some_end rs in
    (r.first + r.count + rest.0, (omega arith, ends_later rest.0 (r.first + r.count + rest.0) rs (omega arith) rest.1))

cond-times : (b : Bool) (t x : ℕ) → (cond b 1 0 + t) * x ≡ cond b x 0 + t * x
cond-times true t x = grind arith
cond-times false t x = grind arith

total-below : (w : ℕ → ℕ) (n : ℕ) (rs : List SampleRange) → EndsBy n rs → total w rs ≡ sum_below (λ i. times i rs * w i) n
total-below w n [] e = total-nil w ∙ sym (below-none (λ i. times i [] * w i) n (λ i l. rw (times-nil i) (zero-mul (w i))))
total-below w n (r ∷ rs) e =
    let rest = total-below w n rs e.1 in
    let one = range_below w n r.first r.count e.0 in
    let both = below-both (λ i. cond (has_sample i r) (w i) 0) (λ i. times i rs * w i) (λ i. times i (r ∷ rs) * w i) n (λ i. rw (times-cons i r rs) (cond-times (has_sample i r) (times i rs) (w i))) in
    omega (arith, total-cons w r rs)

-- where each sample is as often in both, they have the same samples
pub same_from_times : (xs ys : List SampleRange) → ((n : ℕ) → times n xs ≡ times n ys) → AreSame xs ys
same_from_times xs ys h w =
    let ex = some_end xs in
    let ey = some_end ys in
    let n = ex.0 + ey.0 in
    let x = total-below w n xs (ends_later ex.0 n xs (omega arith) ex.1) in
    let y = total-below w n ys (ends_later ey.0 n ys (omega arith) ey.1) in
    let same = below-same (λ i. times i xs * w i) (λ i. times i ys * w i) n (λ i l. ap (λ t. t * w i) (h i)) in
    x ∙ (same ∙ sym y)

-- ---- what having the same samples keeps

pub same_refl : (xs : List SampleRange) → AreSame xs xs
same_refl xs w = refl

pub same_sym : (xs ys : List SampleRange) → AreSame xs ys → AreSame ys xs
same_sym xs ys h w = sym (h w)

pub same_trans : (xs ys zs : List SampleRange) → AreSame xs ys → AreSame ys zs → AreSame xs zs
same_trans xs ys zs h k w = h w ∙ k w

pub same_append : (xs ys us vs : List SampleRange) → AreSame xs ys → AreSame us vs → AreSame (xs ++ us) (ys ++ vs)
same_append xs ys us vs h k w = omega (arith, total-append w xs us, total-append w ys vs, h w, k w)

pub same_swap : (xs ys : List SampleRange) → AreSame (xs ++ ys) (ys ++ xs)
same_swap xs ys w = omega (arith, total-append w xs ys, total-append w ys xs)

pub disjoint_same : (xs ys : List SampleRange) → AreSame xs ys → AreDisjoint xs → AreDisjoint ys
disjoint_same xs ys same d n =
    let e = times_same xs ys same n in
    (omega (arith, (d n).0), λ h. sym e ∙ (d n).1 h)

-- a part of disjoint ranges is disjoint
pub disjoint_left : (xs ys : List SampleRange) → AreDisjoint (xs ++ ys) → AreDisjoint xs
disjoint_left xs ys d n = (omega (arith, (d n).0, times-append n xs ys), λ h. omega (arith, (d n).1 h, times-append n xs ys))

pub disjoint_right : (xs ys : List SampleRange) → AreDisjoint (xs ++ ys) → AreDisjoint ys
disjoint_right xs ys d n = (omega (arith, (d n).0, times-append n xs ys), λ h. omega (arith, (d n).1 h, times-append n xs ys))

-- the samples below a number that a study may have are disjoint as one range
pub disjoint_one : (n : ℕ) → n ≤ MOST_SAMPLES → AreDisjoint (range 0 n ∷ [])
disjoint_one n h s =
    let t : times s (range 0 n ∷ []) ≡ cond (has_sample s (range 0 n)) 1 0 = omega (arith, times-cons s (range 0 n) [], times-nil s) in
    (omega (arith, cond_small (has_sample s (range 0 n))), λ l. t ∙ ap (λ b. cond b 1 0) (behind s n (omega arith)))
  where
    cond_small : (b : Bool) → cond b 1 0 ≤ 1
    cond_small true = omega arith
    cond_small false = omega arith

    behind : (s n : ℕ) → n ≤ s → has_sample s (range 0 n) ≡ false
    behind s n h = grind (arith, nat_tests)

-- ---- how many samples disjoint ranges have

pub below-le : (f g : ℕ → ℕ) (n : ℕ) → ((i : ℕ) → i < n → f i ≤ g i) → sum_below f n ≤ sum_below g n
below-le f g zero h = omega (arith, below-zero f, below-zero g)
below-le f g (suc n) h = omega (arith, below-suc f n, below-suc g n, below-le f g n (λ i l. h i (omega arith)), h n (omega arith))

-- 1 at each number below m
abbrev under : ℕ → ℕ → ℕ
under m = λ i. cond (nat_lt i m) 1 0

below-under : (m n : ℕ) → sum_below (under m) n ≤ m
below-under m zero = omega (arith, below-zero (under m))
below-under m (suc n) =
    elim (cases_lt n m) [
      | inl l ↦ omega (arith, all_under (suc n) (omega arith))
      | inr g ↦
          let off : under m n ≡ zero = ap (λ b. cond b 1 0) (off_at n g) in
          omega (arith, below-suc (under m) n, below-under m n, off)
    ]
  where
    off_at : (n : ℕ) → m ≤ n → nat_lt n m ≡ false
    off_at n g = grind (arith, nat_tests)

    on_at : (n : ℕ) → n < m → nat_lt n m ≡ true
    on_at n l = grind (arith, nat_tests)

    all_under : (k : ℕ) → k ≤ m → sum_below (under m) k ≡ k
    all_under zero h = below-zero (under m)
    all_under (suc k) h =
        let on : under m k ≡ suc zero = ap (λ b. cond b 1 0) (on_at k (omega arith)) in
        omega (arith, below-suc (under m) k, all_under k (omega arith), on)

-- disjoint ranges have at most as many samples as a study may have
pub few_disjoint : (rs : List SampleRange) → AreDisjoint rs → total (λ sample. 1) rs ≤ MOST_SAMPLES
few_disjoint rs d =
    let end = some_end rs in
    let t = total-below (λ sample. 1) end.0 rs end.1 in
    let le = below-le (λ i. times i rs * 1) (under MOST_SAMPLES) end.0 (λ i l. at i) in
    omega (arith, t, le, below-under MOST_SAMPLES end.0)
  where
    at : (i : ℕ) → times i rs * 1 ≤ under MOST_SAMPLES i
    at i =
        elim (cases_lt i MOST_SAMPLES) [
          | inl l ↦ let on : under MOST_SAMPLES i ≡ suc zero = ap (λ b. cond b 1 0) (lt-ltb i MOST_SAMPLES l) in omega (arith, (d i).0, on)
          | inr g ↦ omega (arith, (d i).1 g)
        ]

-- a sample is in ranges where they have some
pub total_some : (rs : List SampleRange) (n : ℕ) → 1 ≤ times n rs → 0 < total (λ sample. 1) rs
total_some rs n h =
    let end = some_end rs in
    let m = end.0 + n + 1 in
    let t = total-below (λ sample. 1) m rs (ends_later end.0 m rs (omega arith) end.1) in
    let one = below-only (λ i. 1) n m (omega arith) in
    let le = below-le (λ i. cond (i == n) 1 0) (λ i. times i rs * 1) m (λ i l. at i) in
    omega (arith, t, le, one)
  where
    at : (i : ℕ) → cond (i == n) 1 0 ≤ times i rs * 1
    at i =
        elim (cases_eq i n) [
          | inl e ↦ rw (eq-eqb i n e, e) (omega arith)
          | inr ne ↦ rw (ne_eqb i n ne) (omega arith)
        ]
