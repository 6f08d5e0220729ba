-- What the runs of ranges are: the one list of spaced runs with the ranges' samples.
use Rattle.std.proofs.Common.{◌≡◌, ℕ, zero, suc, ◌+◌, ◌<◌, ◌≤◌, ◌==◌, inl, inr, Bool, true, false, cond, ◌&&◌, ◌||◌, List, [], ◌∷◌, map, nat_le, nat_lt, max, fold, refl, ap, sym, ◌∙◌, subst, arith, add-one}
use Rattle.std.specs.List.{range_with_len, filter}
use Rattle.std.proofs.lemmas.Bool.{cases_lt, cases_eq, cases_Bool, eq-eqb, ne_eqb, false≢true, and_right, or_right, or_left, or_cases}
use Rattle.std.proofs.lemmas.Bool.Decides.{nat_tests}
use Rattle.campaign_core.specs.declared.run.SampleRange.{SampleRange}
use Rattle.campaign_core.specs.declared.run.Run.{Run}
use Rattle.campaign_core.specs.Ranges.{run, samples_of, has_sample, times, AreSame, is_in, end_of, is_before, begins_run, ends_run, paired, runs_of}
use Rattle.campaign_core.specs.Joining.{Spaced}
use Rattle.campaign_core.proofs.Totals.{times-nil, times-cons, times_same, same_from_times}

pub in-nil : (n : ℕ) → is_in [] n ≡ false
unfolding is_in
in-nil n = refl

pub in-cons : (n : ℕ) (r : SampleRange) (rs : List SampleRange) → is_in (r ∷ rs) n ≡ (has_sample n r || is_in rs n)
unfolding is_in
in-cons n r rs = refl

-- a sample is among ranges where it is in some of them
pub in_times : (n : ℕ) (rs : List SampleRange) → is_in rs n ≡ nat_lt 0 (times n rs)
in_times n [] = in-nil n ∙ sym (ap (nat_lt 0) (times-nil n))
in_times n (r ∷ rs) =
    let rest = in_times n rs in
    rw (in-cons n r rs, times-cons n r rs, rest) (one_more (has_sample n r) (times n rs))
  where
    one_more : (b : Bool) (t : ℕ) → (b || nat_lt 0 t) ≡ nat_lt 0 (cond b 1 0 + t)
    one_more true t = grind (arith, nat_tests)
    one_more false t = grind (arith, nat_tests)

-- below where spaced runs begin there is none of their samples
none_below : (n low : ℕ) (js : List Run) → Spaced low js → n < low → is_in (map samples_of js) n ≡ false
none_below n low [] s h = in-nil n
none_below n low (j ∷ js) s h =
    let rest = none_below n (j.last + 2) js s.2 (omega (arith, s.0, s.1)) in
    let here : has_sample n (samples_of j) ≡ false = before_first n j (omega (arith, s.0)) in
    rw (in-cons n (samples_of j) (map samples_of js), rest, here) refl
  where
    before_first : (n : ℕ) (j : Run) → n < j.first → has_sample n (samples_of j) ≡ false
    before_first n j h = grind (arith, nat_tests)

has_inside : (n : ℕ) (j : Run) → j.first ≤ n → n ≤ j.last → has_sample n (samples_of j) ≡ true
has_inside n j f l = grind (arith, nat_tests)

has_above : (n : ℕ) (j : Run) → j.last < n → j.first ≤ j.last → has_sample n (samples_of j) ≡ false
has_above n j l f = grind (arith, nat_tests)

has_below : (n : ℕ) (j : Run) → n < j.first → has_sample n (samples_of j) ≡ false
has_below n j h = grind (arith, nat_tests)

-- each run ends below a number
abbrev AllBelow : ℕ → List Run → Type 0
AllBelow n [] = Unit {0}
AllBelow n (j ∷ js) = (j.last < n) × AllBelow n js

filter-yes : (p : ℕ → Bool) (a : ℕ) (xs : List ℕ) → p a ≡ true → filter p (a ∷ xs) ≡ a ∷ filter p xs
filter-yes p a xs h = rw h refl

filter-no : (p : ℕ → Bool) (a : ℕ) (xs : List ℕ) → p a ≡ false → filter p (a ∷ xs) ≡ filter p xs
filter-no p a xs h = rw h refl

-- ---- a test's begins and ends over numbers in a row are those of the spaced runs that it tells
module _ (test : ℕ → Bool) where
  abbrev Tells : ℕ → List Run → Type 0
  Tells low js = (n : ℕ) → low ≤ n → test n ≡ is_in (map samples_of js) n

  firsts : ℕ → ℕ → List ℕ
  firsts a n = filter (begins_run test) (range_with_len a n)

  lasts : ℕ → ℕ → List ℕ
  lasts a n = filter (ends_run test) (range_with_len a n)

  firsts-zero : (a : ℕ) → firsts a 0 ≡ []
  unfolding firsts
  firsts-zero a = refl

  lasts-zero : (a : ℕ) → lasts a 0 ≡ []
  unfolding lasts
  lasts-zero a = refl

  firsts-yes : (a n : ℕ) → test a ≡ true → is_before test a ≡ false → firsts a (suc n) ≡ a ∷ firsts (a + 1) n
  unfolding firsts
  firsts-yes a n t b = filter-yes (begins_run test) a (range_with_len (a + 1) n) (rw (t, b) refl)

  firsts-no : (a n : ℕ) → begins_run test a ≡ false → firsts a (suc n) ≡ firsts (a + 1) n
  unfolding firsts
  firsts-no a n h = filter-no (begins_run test) a (range_with_len (a + 1) n) h

  lasts-yes : (a n : ℕ) → test a ≡ true → test (suc a) ≡ false → lasts a (suc n) ≡ a ∷ lasts (a + 1) n
  unfolding lasts
  lasts-yes a n t b = filter-yes (ends_run test) a (range_with_len (a + 1) n) (rw (t, b) refl)

  lasts-no : (a n : ℕ) → ends_run test a ≡ false → lasts a (suc n) ≡ lasts (a + 1) n
  unfolding lasts
  lasts-no a n h = filter-no (ends_run test) a (range_with_len (a + 1) n) h

  abbrev Outside : ℕ → Type 0
  Outside n =
      (a : ℕ) (js : List Run) → Spaced a js → Tells a js → is_before test a ≡ false → AllBelow (a + n) js
      → (firsts a n ≡ map (λ (j : Run). j.first) js) × (lasts a n ≡ map (λ (j : Run). j.last) js)

  abbrev Inside : ℕ → Type 0
  Inside n =
      (a : ℕ) (j : Run) (js : List Run) → j.first < a → a ≤ j.last → Spaced (j.last + 2) js → Tells a (j ∷ js) → is_before test a ≡ true
      → AllBelow (a + n) (j ∷ js)
      → (firsts a n ≡ map (λ (j : Run). j.first) js) × (lasts a n ≡ j.last ∷ map (λ (j : Run). j.last) js)

  -- right behind a run
  abbrev Behind : ℕ → Type 0
  Behind n =
      (j : Run) (js : List Run) → j.first ≤ j.last → Spaced (j.last + 2) js → Tells (j.last + 1) (j ∷ js) → AllBelow (j.last + 1 + n) js
      → (firsts (j.last + 1) n ≡ map (λ (j : Run). j.first) js) × (lasts (j.last + 1) n ≡ map (λ (j : Run). j.last) js)

  is_at : (a : ℕ) (j : Run) (js : List Run) → Tells a (j ∷ js) → j.first ≤ a → a ≤ j.last → test a ≡ true
  is_at a j js tells f l = tells a (omega arith) ∙ (in-cons a (samples_of j) (map samples_of js) ∙ ap (λ b. b || is_in (map samples_of js) a) (has_inside a j f l))

  not_behind : (a : ℕ) (j : Run) (js : List Run) → j.first ≤ j.last → Spaced (j.last + 2) js → Tells a (j ∷ js) → a ≤ j.last + 1 → test (j.last + 1) ≡ false
  not_behind a j js filled s tells h =
      let here = has_above (j.last + 1) j (omega arith) filled in
      let rest = none_below (j.last + 1) (j.last + 2) js s (omega arith) in
      tells (j.last + 1) h ∙ (in-cons (j.last + 1) (samples_of j) (map samples_of js) ∙ rw (here, rest) refl)

  begins-no_test : (a : ℕ) → test a ≡ false → begins_run test a ≡ false
  begins-no_test a h = rw h refl

  begins-inside : (a : ℕ) → is_before test a ≡ true → begins_run test a ≡ false
  begins-inside a h = rw h (and_right (test a) false refl)

  ends-no_test : (a : ℕ) → test a ≡ false → ends_run test a ≡ false
  ends-no_test a h = rw h refl

  ends-goes_on : (a : ℕ) → test (suc a) ≡ true → ends_run test a ≡ false
  ends-goes_on a h = rw h (and_right (test a) false refl)

  later : (a : ℕ) (js : List Run) → Tells a js → Tells (a + 1) js
  later a js tells n h = tells n (omega arith)

  before-next : (a : ℕ) (b : Bool) → test a ≡ b → is_before test (a + 1) ≡ b
  before-next a b h = rw add-one h

  below-next : (a n : ℕ) (js : List Run) → AllBelow (a + suc n) js → AllBelow (a + 1 + n) js
  below-next a n js h = let e : a + suc n ≡ a + 1 + n = omega arith in subst (λ m. AllBelow m js) e h

  behind_step : (n : ℕ) → Outside n → Behind (suc n)
  behind_step n outside j js filled s tells below =
      let no = not_behind (j.last + 1) j js filled s tells (omega arith) in
      let tells' : Tells (j.last + 1 + 1) js = λ m h. tells m (omega arith) ∙ (in-cons m (samples_of j) (map samples_of js) ∙ ap (λ b. b || is_in (map samples_of js) m) (has_above m j (omega arith) filled)) in
      let e : j.last + 2 ≡ j.last + 1 + 1 = omega arith in
      let rest = outside (j.last + 1 + 1) js (subst (λ m. Spaced m js) e s) tells' (before-next (j.last + 1) false no) (below-next (j.last + 1) n js below) in
      (firsts-no (j.last + 1) n (begins-no_test (j.last + 1) no) ∙ rest.0, lasts-no (j.last + 1) n (ends-no_test (j.last + 1) no) ∙ rest.1)

  behind_zero : Behind 0
  behind_zero j [] filled s tells below = (firsts-zero (j.last + 1), lasts-zero (j.last + 1))
  behind_zero j (k ∷ js) filled s tells below = absurd (omega (arith, s.0, s.1, below.0))

  inside_step : (n : ℕ) → Inside n → Behind n → Inside (suc n)
  inside_step n inside behind a j js f l s tells before below =
      let yes = is_at a j js tells (omega arith) l in
      let first_no = firsts-no a n (begins-inside a before) in
      let next = below-next a n (j ∷ js) below in
      elim (cases_lt a j.last) [
        | inl more ↦
            let rest = inside (a + 1) j js (omega arith) (omega arith) s (later a (j ∷ js) tells) (before-next a true yes) next in
            let on = is_at (suc a) j js (λ m h. tells m (omega arith)) (omega arith) (omega arith) in
            (first_no ∙ rest.0, lasts-no a n (ends-goes_on a on) ∙ rest.1)
        | inr done ↦
            let e : a ≡ j.last = omega arith in
            let no : test (suc a) ≡ false = rw (ap suc e) (rw add-one at (not_behind a j js (omega arith) s tells (omega arith))) in
            let tells' : Tells (j.last + 1) (j ∷ js) = λ m h. tells m (omega arith) in
            let next' : AllBelow (j.last + 1 + n) (j ∷ js) = subst (λ m. AllBelow (m + 1 + n) (j ∷ js)) e next in
            let rest = behind j js (omega arith) s tells' next'.1 in
            let e' : a + 1 ≡ j.last + 1 = omega arith in
            (first_no ∙ (ap (λ m. firsts m n) e' ∙ rest.0), lasts-yes a n yes no ∙ (rw (e', e) (ap (λ l. j.last ∷ l) rest.1)))
      ]

  inside_zero : Inside 0
  inside_zero a j js f l s tells before below = absurd (omega (arith, below.0))

  outside_zero : Outside 0
  outside_zero a [] s tells before below = (firsts-zero a, lasts-zero a)
  outside_zero a (j ∷ js) s tells before below = absurd (omega (arith, s.0, s.1, below.0))

  outside_step : (n : ℕ) → Outside n → Inside n → Behind n → Outside (suc n)
  outside_step n outside inside behind a [] s tells before below =
      let no : test a ≡ false = tells a (omega arith) ∙ in-nil a in
      let rest = outside (a + 1) [] tt (later a [] tells) (before-next a false no) tt in
      (firsts-no a n (begins-no_test a no) ∙ rest.0, lasts-no a n (ends-no_test a no) ∙ rest.1)
  outside_step n outside inside behind a (j ∷ js) s tells before below =
      let next = below-next a n (j ∷ js) below in
      elim (cases_lt a j.first) [
        | inl gap ↦
            let none = none_below a j.first (j ∷ js) (omega arith, s.1, s.2) gap in
            let no : test a ≡ false = tells a (omega arith) ∙ none in
            let rest = outside (a + 1) (j ∷ js) (omega arith, s.1, s.2) (later a (j ∷ js) tells) (before-next a false no) next in
            (firsts-no a n (begins-no_test a no) ∙ rest.0, lasts-no a n (ends-no_test a no) ∙ rest.1)
        | inr here ↦
            let e : a ≡ j.first = omega (arith, s.0) in
            let yes = is_at a j js tells (omega arith) (omega (arith, s.1)) in
            let first_yes = firsts-yes a n yes before in
            elim (cases_lt a j.last) [
              | inl more ↦
                  let rest = inside (a + 1) j js (omega arith) (omega arith) s.2 (later a (j ∷ js) tells) (before-next a true yes) next in
                  let on = is_at (suc a) j js (λ m h. tells m (omega arith)) (omega arith) (omega arith) in
                  (first_yes ∙ rw e (ap (λ l. j.first ∷ l) (rw e at rest.0)), lasts-no a n (ends-goes_on a on) ∙ rest.1)
              | inr done ↦
                  let e2 : a ≡ j.last = omega (arith, s.1) in
                  let no : test (suc a) ≡ false = rw (ap suc e2) (rw add-one at (not_behind a j js s.1 s.2 tells (omega arith))) in
                  let tells' : Tells (j.last + 1) (j ∷ js) = λ m h. tells m (omega arith) in
                  let next' : AllBelow (j.last + 1 + n) (j ∷ js) = subst (λ m. AllBelow (m + 1 + n) (j ∷ js)) e2 next in
                  let rest = behind j js s.1 s.2 tells' next'.1 in
                  let firsts_rest : firsts (a + 1) n ≡ map (λ (j : Run). j.first) js = subst (λ m. firsts (m + 1) n ≡ map (λ (j : Run). j.first) js) (sym e2) rest.0 in
                  let lasts_rest : lasts (a + 1) n ≡ map (λ (j : Run). j.last) js = subst (λ m. lasts (m + 1) n ≡ map (λ (j : Run). j.last) js) (sym e2) rest.1 in (
                    first_yes ∙ (ap (λ l. a ∷ l) firsts_rest ∙ ap (λ m. m ∷ map (λ (j : Run). j.first) js) e),
                    lasts-yes a n yes no ∙ (ap (λ l. a ∷ l) lasts_rest ∙ ap (λ m. m ∷ map (λ (j : Run). j.last) js) e2),
                  )
            ]
      ]

  all_states : (n : ℕ) → Outside n × Inside n × Behind n
  all_states zero = (outside_zero, inside_zero, behind_zero)
  all_states (suc n) =
      let before = all_states n in
      (outside_step n before.0 before.1 before.2, inside_step n before.1 before.2, behind_step n before.0)

-- ---- the runs of ranges

paired-fields : (js : List Run) → paired (map (λ (j : Run). j.first) js) (map (λ (j : Run). j.last) js) ≡ js
paired-fields [] = refl
paired-fields (j ∷ js) = ap (λ l. j ∷ l) (paired-fields js)

fold_above : (rs : List SampleRange) (a : ℕ) → a ≤ fold (λ end (r : SampleRange). max end (r.first + r.count)) a rs
fold_above [] a = omega arith
fold_above (r ∷ rs) a = omega (arith, fold_above rs (max a (r.first + r.count)))

has_ends : (n : ℕ) (r : SampleRange) → has_sample n r ≡ true → n < r.first + r.count
has_ends n r h = grind (arith, nat_tests)

in_below : (n : ℕ) (rs : List SampleRange) (a : ℕ) → is_in rs n ≡ true → n < fold (λ end (r : SampleRange). max end (r.first + r.count)) a rs
in_below n [] a h = absurd (false≢true (sym (in-nil n) ∙ h))
in_below n (r ∷ rs) a h =
    elim (or_cases (has_sample n r) (is_in rs n) (sym (in-cons n r rs) ∙ h)) [
      | inl here ↦ omega (arith, has_ends n r here, fold_above rs (max a (r.first + r.count)))
      | inr rest ↦ in_below n rs (max a (r.first + r.count)) rest
    ]

pub in_end : (n : ℕ) (rs : List SampleRange) → is_in rs n ≡ true → n < end_of rs
unfolding end_of
in_end n rs h = in_below n rs 0 h

all_below : (end low : ℕ) (js : List Run) → Spaced low js → ((n : ℕ) → is_in (map samples_of js) n ≡ true → n < end) → AllBelow end js
all_below end low [] s h = tt
all_below end low (j ∷ js) s h = (
  h j.last (in-cons j.last (samples_of j) (map samples_of js) ∙ or_left (has_sample j.last (samples_of j)) (is_in (map samples_of js) j.last) (has_inside j.last j s.1 (omega arith))),
  all_below end (j.last + 2) js s.2 (λ n i. h n (in-cons n (samples_of j) (map samples_of js) ∙ or_right (has_sample n (samples_of j)) (is_in (map samples_of js) n) i)),
)

-- spaced runs with the samples of these ranges are their runs
pub runs_are : (rs : List SampleRange) (js : List Run) → Spaced 0 js → ((n : ℕ) → is_in rs n ≡ is_in (map samples_of js) n) → runs_of rs ≡ js
unfolding runs_of firsts lasts
runs_are rs js s tells =
    let below = all_below (end_of rs) 0 js s (λ n h. in_end n rs (tells n ∙ h)) in
    let from_0 : AllBelow (0 + end_of rs) js = let e : end_of rs ≡ 0 + end_of rs = omega arith in subst (λ m. AllBelow m js) e below in
    let all = (all_states (is_in rs) (end_of rs)).0 0 js s (λ n h. tells n) refl from_0 in
    rw (all.0, all.1) (paired-fields js)

-- the runs that a test makes of numbers in a row
in_front : ℕ → List Run → List Run
in_front a [] = run a a ∷ []
in_front a (j ∷ js) = cond (j.first == a + 1) (run a j.last ∷ js) (run a a ∷ j ∷ js)

scanned : (ℕ → Bool) → ℕ → ℕ → List Run
scanned test a zero = []
scanned test a (suc n) = cond (test a) (in_front a (scanned test (a + 1) n)) (scanned test (a + 1) n)

-- spaced runs from a number on that tell a test on n numbers
record IsScan (test : ℕ → Bool) (a n : ℕ) (js : List Run) : Type 0 where
  spaced : Spaced a js
  tells : (m : ℕ) → is_in (map samples_of js) m ≡ (nat_le a m && nat_lt m (a + n) && test m)

lower : (a b : ℕ) (js : List Run) → Spaced b js → a ≤ b → Spaced a js
lower a b [] s h = tt
lower a b (j ∷ js) s h = (omega (arith, s.0), s.1, s.2)

scan_zero : (test : ℕ → Bool) (a : ℕ) → IsScan test a 0 []
scan_zero test a = record {
  spaced = tt;
  tells = λ m. in-nil m ∙ nothing m;
}
  where
    nothing : (m : ℕ) → false ≡ (nat_le a m && nat_lt m (a + 0) && test m)
    nothing m = let fails : (nat_le a m && nat_lt m (a + 0)) ≡ false = grind (arith, nat_tests) in rw fails refl

scan_skip : (test : ℕ → Bool) (a n : ℕ) (js : List Run) → test a ≡ false → IsScan test (a + 1) n js → IsScan test a (suc n) js
scan_skip test a n js fails scan = record {
  spaced = lower a (a + 1) js scan.spaced (omega arith);
  tells = λ m. scan.tells m ∙ skip m;
}
  where
    skip : (m : ℕ) → (nat_le (a + 1) m && nat_lt m (a + 1 + n) && test m) ≡ (nat_le a m && nat_lt m (a + suc n) && test m)
    skip m =
        elim (cases_eq m a) [
          | inl e ↦ let off : test m ≡ false = ap test e ∙ fails in rw off (and_right (nat_le (a + 1) m && nat_lt m (a + 1 + n)) false refl ∙ sym (and_right (nat_le a m && nat_lt m (a + suc n)) false refl))
          | inr ne ↦ let same : (nat_le (a + 1) m && nat_lt m (a + 1 + n)) ≡ (nat_le a m && nat_lt m (a + suc n)) = grind (arith, nat_tests) in ap (λ b. b && test m) same
        ]

-- one more number in front that passes
one_more_tells : (test : ℕ → Bool) (a n m : ℕ) → test a ≡ true → ((m == a) || (nat_le (a + 1) m && nat_lt m (a + 1 + n) && test m)) ≡ (nat_le a m && nat_lt m (a + suc n) && test m)
one_more_tells test a n m holds =
    elim (cases_eq m a) [
      | inl e ↦
          let on : test m ≡ true = ap test e ∙ holds in
          let here : (m == a) ≡ true = eq-eqb m a e in
          let there : (nat_le a m && nat_lt m (a + suc n)) ≡ true = grind (arith, nat_tests) in
          rw (on, here, there) refl
      | inr ne ↦
          let here : (m == a) ≡ false = ne_eqb m a ne in
          let same : (nat_le (a + 1) m && nat_lt m (a + 1 + n)) ≡ (nat_le a m && nat_lt m (a + suc n)) = grind (arith, nat_tests) in
          rw here (ap (λ b. b && test m) same)
    ]

single : (m a : ℕ) → has_sample m (samples_of (run a a)) ≡ (m == a)
single m a = grind (arith, nat_tests)

stretched : (m a last : ℕ) → a + 1 ≤ last → has_sample m (samples_of (run a last)) ≡ ((m == a) || has_sample m (samples_of (run (a + 1) last)))
stretched m a last h = grind (arith, nat_tests)

or_assoc : (x y z : Bool) → ((x || y) || z) ≡ (x || (y || z))
or_assoc true y z = refl
or_assoc false y z = refl

scan_put : (test : ℕ → Bool) (a n : ℕ) (js : List Run) → test a ≡ true → IsScan test (a + 1) n js → IsScan test a (suc n) (in_front a js)
unfolding in_front
scan_put test a n [] holds scan = record {
  spaced = (omega arith, omega arith, tt);
  tells = λ m. in-cons m (samples_of (run a a)) [] ∙ (rw (single m a) (ap (λ b. (m == a) || b) (scan.tells m)) ∙ one_more_tells test a n m holds);
}
scan_put test a n (j ∷ js) holds scan =
    elim (cases_eq j.first (a + 1)) [
      | inl e ↦
          rw (eq-eqb j.first (a + 1) e)
          (record {
            spaced = (omega arith, omega (arith, scan.spaced.1), scan.spaced.2);
            tells = λ m. in-cons m (samples_of (run a j.last)) (map samples_of js) ∙ (joined m e ∙ (ap (λ b. (m == a) || b) (scan.tells m) ∙ one_more_tells test a n m holds));
          })
      | inr ne ↦
          rw (ne_eqb j.first (a + 1) ne)
          (record {
            spaced = (omega arith, omega arith, (omega (arith, scan.spaced.0), scan.spaced.1, scan.spaced.2));
            tells = λ m. in-cons m (samples_of (run a a)) (map samples_of (j ∷ js)) ∙ (rw (single m a) (ap (λ b. (m == a) || b) (scan.tells m)) ∙ one_more_tells test a n m holds);
          })
    ]
  where
    joined : (m : ℕ) → j.first ≡ a + 1 → (has_sample m (samples_of (run a j.last)) || is_in (map samples_of js) m) ≡ ((m == a) || is_in (map samples_of (j ∷ js)) m)
    joined m e =
        let long = stretched m a j.last (omega (arith, scan.spaced.1)) in
        let same : has_sample m (samples_of (run (a + 1) j.last)) ≡ has_sample m (samples_of j) = ap (λ f. has_sample m (samples_of (run f j.last))) (sym e) in
        rw (long, same, in-cons m (samples_of j) (map samples_of js)) (or_assoc (m == a) (has_sample m (samples_of j)) (is_in (map samples_of js) m))

scan_is : (test : ℕ → Bool) (n a : ℕ) → IsScan test a n (scanned test a n)
unfolding scanned
scan_is test zero a = scan_zero test a
scan_is test (suc n) a =
    let rest = scan_is test n (a + 1) in
    elim (cases_Bool (test a)) [
      | inl holds ↦ rw holds (scan_put test a n (scanned test (a + 1) n) holds rest)
      | inr fails ↦ rw fails (scan_skip test a n (scanned test (a + 1) n) fails rest)
    ]

-- the runs of ranges are spaced, and have the ranges' samples
pub runs_spaced : (rs : List SampleRange) → Spaced 0 (runs_of rs) × ((n : ℕ) → is_in (map samples_of (runs_of rs)) n ≡ is_in rs n)
runs_spaced rs =
    let js = scanned (is_in rs) 0 (end_of rs) in
    let scan = scan_is (is_in rs) (end_of rs) 0 in
    let tells : (n : ℕ) → is_in rs n ≡ is_in (map samples_of js) n = λ n. sym (scan.tells n ∙ within n) in
    let same = runs_are rs js scan.spaced tells in
    (rw same scan.spaced, λ n. rw same (sym (tells n)))
  where
    within : (n : ℕ) → (nat_le 0 n && nat_lt n (0 + end_of rs) && is_in rs n) ≡ is_in rs n
    within n =
        elim (cases_Bool (is_in rs n)) [
          | inl holds ↦ let l = in_end n rs holds in let t : (nat_le 0 n && nat_lt n (0 + end_of rs)) ≡ true = grind (arith, nat_tests) in rw (t, holds) refl
          | inr fails ↦ rw fails (and_right (nat_le 0 n && nat_lt n (0 + end_of rs)) false refl)
        ]

-- a sample stands in one of spaced runs at most
spaced_once : (n low : ℕ) (js : List Run) → Spaced low js → times n (map samples_of js) ≡ cond (is_in (map samples_of js) n) 1 0
spaced_once n low [] s = rw (in-nil n) (times-nil n)
spaced_once n low (j ∷ js) s =
    let rest = spaced_once n (j.last + 2) js s.2 in
    elim (cases_Bool (has_sample n (samples_of j))) [
      | inl here ↦
          let below : n < j.last + 2 = omega (arith, has_ends n (samples_of j) here, s.1) in
          let none = none_below n (j.last + 2) js s.2 below in
          let t : times n (map samples_of js) ≡ 0 = rest ∙ ap (λ b. cond b 1 0) none in
          let head : is_in (map samples_of (j ∷ js)) n ≡ true = in-cons n (samples_of j) (map samples_of js) ∙ or_left (has_sample n (samples_of j)) (is_in (map samples_of js) n) here in
          rw head (times-cons n (samples_of j) (map samples_of js) ∙ rw (here, t) refl)
      | inr away ↦
          let head : is_in (map samples_of (j ∷ js)) n ≡ is_in (map samples_of js) n = in-cons n (samples_of j) (map samples_of js) ∙ rw away refl in
          rw head (times-cons n (samples_of j) (map samples_of js) ∙ rw away (omega (arith, rest)))
    ]

-- where fails sample stands in two ranges, the runs have the same samples
pub runs_same : (rs : List SampleRange) → ((n : ℕ) → times n rs ≤ 1) → AreSame (map samples_of (runs_of rs)) rs
runs_same rs once =
    let runs = runs_spaced rs in
    same_from_times (map samples_of (runs_of rs)) rs
    (λ n. spaced_once n 0 (runs_of rs) runs.0 ∙ (ap (λ b. cond b 1 0) (runs.1 n) ∙ sym (once_is n (times n rs) (once n) (in_times n rs))))
  where
    once_is : (n t : ℕ) → t ≤ 1 → {b : Bool} → b ≡ nat_lt 0 t → t ≡ cond b 1 0
    once_is n t h e = rw e (grind (arith, nat_tests))

-- and ranges with the same samples have the same runs
pub runs_by_samples : (xs ys : List SampleRange) → AreSame xs ys → runs_of xs ≡ runs_of ys
runs_by_samples xs ys same =
    let runs = runs_spaced ys in
    runs_are xs (runs_of ys) runs.0 (λ n. in_times n xs ∙ (ap (nat_lt 0) (times_same xs ys same n) ∙ (sym (in_times n ys) ∙ sym (runs.1 n))))

-- spaced runs with the samples of ranges, each as often, are their runs
pub runs_joined : (rs : List SampleRange) (js : List Run) → Spaced 0 js → AreSame (map samples_of js) rs → runs_of rs ≡ js
runs_joined rs js s same =
    runs_are rs js s (λ n. in_times n rs ∙ (ap (nat_lt 0) (sym (times_same (map samples_of js) rs same n)) ∙ sym (in_times n (map samples_of js))))
