-- Ranges in lists, and lists without some of their ranges.
use Rattle.std.proofs.Common.{◌≡◌, ℕ, zero, suc, ◌+◌, ◌<◌, ◌≤◌, ◌==◌, inl, inr, Bool, true, false, cond, ◌&&◌, ◌||◌, not, List, [], ◌∷◌, ◌++◌, length, get_or, take, drop, slice_get, Some, refl, ap, sym, ◌∙◌, subst, arith}
use Rattle.std.proofs.lemmas.Bool.{cases_Bool, eq-eqb, eqb-true, and_parts, or_cases, false≢true, or_parts, or_right, false_from_ne_true}
use Rattle.std.proofs.lemmas.List.{take_more}
use Rattle.std.proofs.lemmas.Bool.Decides.{nat_tests}
use Rattle.std.proofs.lemmas.List.Folds.{list_any-append}
use Rattle.std.proofs.lemmas.List.Elements.{filter-append}
use Rattle.campaign_core.specs.declared.run.SampleRange.{SampleRange}
use Rattle.campaign_core.specs.Ranges.{range, is_same, has_range, without, has_sample, times, weight_of, total, AreFilled}
use Rattle.campaign_core.proofs.Totals.{total-cons, times-cons}

-- ---- one range

pub same_is : (r s : SampleRange) → is_same r s ≡ true → r ≡ s
same_is r s h =
    let parts = and_parts (r.first == s.first) (r.count == s.count) h in
    let f = eqb-true r.first s.first parts.0 in
    let c = eqb-true r.count s.count parts.1 in
    ap (λ n. range n r.count) f ∙ ap (λ n. range s.first n) c

pub is_same-self : (r : SampleRange) → is_same r r ≡ true
is_same-self r = rw (eq-eqb r.first r.first refl, eq-eqb r.count r.count refl) refl

pub same-swap : (r s : SampleRange) → is_same r s ≡ is_same s r
same-swap r s = rw (eqb_swap r.first s.first, eqb_swap r.count s.count) refl
  where
    eqb_swap : (a b : ℕ) → (a == b) ≡ (b == a)
    eqb_swap a b = grind (arith, nat_tests)

-- ---- ranges in a list

pub has-nil : (r : SampleRange) → has_range [] r ≡ false
unfolding has_range
has-nil r = refl

pub has-cons : (s : SampleRange) (rs : List SampleRange) (r : SampleRange) → has_range (s ∷ rs) r ≡ (is_same s r || has_range rs r)
unfolding has_range
has-cons s rs r = refl

pub has-append : (xs ys : List SampleRange) (r : SampleRange) → has_range (xs ++ ys) r ≡ (has_range xs r || has_range ys r)
unfolding has_range
has-append xs ys r = list_any-append (λ (s : SampleRange). is_same s r) xs ys

pub has-one : (s r : SampleRange) → has_range (s ∷ []) r ≡ is_same s r
has-one s r = has-cons s [] r ∙ (ap (λ b. is_same s r || b) (has-nil r) ∙ or_nothing (is_same s r))
  where
    or_nothing : (b : Bool) → (b || false) ≡ b
    or_nothing true = refl
    or_nothing false = refl

pub filled_append : (xs ys : List SampleRange) → AreFilled xs → AreFilled ys → AreFilled (xs ++ ys)
filled_append [] ys f g = g
filled_append (x ∷ xs) ys f g = (f.0, filled_append xs ys f.1 g)

pub filled_left : (xs ys : List SampleRange) → AreFilled (xs ++ ys) → AreFilled xs
filled_left [] ys f = tt
filled_left (x ∷ xs) ys f = (f.0, filled_left xs ys f.1)

pub filled_right : (xs ys : List SampleRange) → AreFilled (xs ++ ys) → AreFilled ys
filled_right [] ys f = f
filled_right (x ∷ xs) ys f = filled_right xs ys f.1

pub has_filled : (rs : List SampleRange) (r : SampleRange) → AreFilled rs → has_range rs r ≡ true → 1 ≤ r.count
has_filled [] r f h = absurd (false≢true (sym (has-nil r) ∙ h))
has_filled (s ∷ rs) r f h =
    elim (or_cases (is_same s r) (has_range rs r) (sym (has-cons s rs r) ∙ h)) [
      | inl here ↦ let e = ap (λ (x : SampleRange). x.count) (same_is s r here) in omega (arith, f.0)
      | inr rest ↦ has_filled rs r f.1 rest
    ]

-- a sample of a range that is in the list is a sample of the list
pub has_times : (rs : List SampleRange) (r : SampleRange) (n : ℕ) → has_range rs r ≡ true → has_sample n r ≡ true → 1 ≤ times n rs
has_times [] r n h i = absurd (false≢true (sym (has-nil r) ∙ h))
has_times (s ∷ rs) r n h i =
    elim (or_cases (is_same s r) (has_range rs r) (sym (has-cons s rs r) ∙ h)) [
      | inl here ↦ let e = same_is s r here in let t : cond (has_sample n s) 1 0 ≡ suc zero = rw e (ap (λ b. cond b 1 0) i) in omega (arith, times-cons n s rs, t)
      | inr rest ↦ omega (arith, times-cons n s rs, has_times rs r n rest i)
    ]

pub first_inside : (r : SampleRange) → 1 ≤ r.count → has_sample r.first r ≡ true
first_inside r h = grind (arith, nat_tests)

-- ---- a list without ranges

pub without-nil : (ds : List SampleRange) → without ds [] ≡ []
unfolding without
without-nil ds = refl

pub without-keeps : (ds : List SampleRange) (r : SampleRange) (rs : List SampleRange) → has_range ds r ≡ false → without ds (r ∷ rs) ≡ r ∷ without ds rs
unfolding without
without-keeps ds r rs h = rw h refl

pub without-drops : (ds : List SampleRange) (r : SampleRange) (rs : List SampleRange) → has_range ds r ≡ true → without ds (r ∷ rs) ≡ without ds rs
unfolding without
without-drops ds r rs h = rw h refl

pub without-append : (ds xs ys : List SampleRange) → without ds (xs ++ ys) ≡ without ds xs ++ without ds ys
unfolding without
without-append ds xs ys = filter-append (λ r. not (has_range ds r)) xs ys

pub without-none : (rs : List SampleRange) → without [] rs ≡ rs
without-none [] = without-nil []
without-none (r ∷ rs) = without-keeps [] r rs (has-nil r) ∙ ap (λ l. r ∷ l) (without-none rs)

pub without-both : (ds es rs : List SampleRange) → without (ds ++ es) rs ≡ without es (without ds rs)
without-both ds es [] = without-nil (ds ++ es) ∙ (sym (without-nil es) ∙ ap (without es) (sym (without-nil ds)))
without-both ds es (r ∷ rs) =
    let rest = without-both ds es rs in
    elim (cases_Bool (has_range ds r)) [
      | inl here ↦
          let both : has_range (ds ++ es) r ≡ true = has-append ds es r ∙ rw here refl in
          without-drops (ds ++ es) r rs both ∙ (rest ∙ ap (without es) (sym (without-drops ds r rs here)))
      | inr away ↦
          let left : has_range (ds ++ es) r ≡ has_range es r = has-append ds es r ∙ rw away refl in
          elim (cases_Bool (has_range es r)) [
            | inl there ↦
                without-drops (ds ++ es) r rs (left ∙ there)
                ∙ (rest ∙ (sym (without-drops es r (without ds rs) there) ∙ ap (without es) (sym (without-keeps ds r rs away))))
            | inr none_of ↦
                without-keeps (ds ++ es) r rs (left ∙ none_of)
                ∙ (ap (λ l. r ∷ l) rest ∙ (sym (without-keeps es r (without ds rs) none_of) ∙ ap (without es) (sym (without-keeps ds r rs away))))
          ]
    ]

pub has-without : (ds rs : List SampleRange) (r : SampleRange) → has_range (without ds rs) r ≡ (has_range rs r && not (has_range ds r))
has-without ds [] r = ap (λ l. has_range l r) (without-nil ds) ∙ (has-nil r ∙ rw (has-nil r) refl)
has-without ds (s ∷ rs) r =
    let rest = has-without ds rs r in
    elim (cases_Bool (has_range ds s)) [
      | inl here ↦ ap (λ l. has_range l r) (without-drops ds s rs here) ∙ (rest ∙ dropped here)
      | inr away ↦ ap (λ l. has_range l r) (without-keeps ds s rs away) ∙ (has-cons s (without ds rs) r ∙ (ap (λ b. is_same s r || b) rest ∙ kept away))
    ]
  where
    dropped : has_range ds s ≡ true → (has_range rs r && not (has_range ds r)) ≡ (has_range (s ∷ rs) r && not (has_range ds r))
    dropped here =
        elim (cases_Bool (is_same s r)) [
          | inl same ↦ let d : has_range ds r ≡ true = ap (has_range ds) (sym (same_is s r same)) ∙ here in rw d (and_false (has_range rs r) ∙ sym (and_false (has_range (s ∷ rs) r)))
          | inr other ↦ rw (has-cons s rs r, other) refl
        ]
      where
        and_false : (b : Bool) → (b && false) ≡ false
        and_false true = refl
        and_false false = refl

    kept : has_range ds s ≡ false → (is_same s r || (has_range rs r && not (has_range ds r))) ≡ (has_range (s ∷ rs) r && not (has_range ds r))
    kept away =
        elim (cases_Bool (is_same s r)) [
          | inl same ↦ let d : has_range ds r ≡ false = ap (has_range ds) (sym (same_is s r same)) ∙ away in rw (has-cons s rs r, same, d) refl
          | inr other ↦ rw (has-cons s rs r, other) refl
        ]

pub filled_without : (ds rs : List SampleRange) → AreFilled rs → AreFilled (without ds rs)
filled_without ds [] f = subst AreFilled (sym (without-nil ds)) tt
filled_without ds (r ∷ rs) f =
    elim (cases_Bool (has_range ds r)) [
      | inl here ↦ subst AreFilled (sym (without-drops ds r rs here)) (filled_without ds rs f.1)
      | inr away ↦ subst AreFilled (sym (without-keeps ds r rs away)) (f.0, filled_without ds rs f.1)
    ]

-- what is left has a sample no more often
pub times_without : (n : ℕ) (ds rs : List SampleRange) → times n (without ds rs) ≤ times n rs
times_without n ds [] = omega (arith, ap (times n) (without-nil ds))
times_without n ds (r ∷ rs) =
    elim (cases_Bool (has_range ds r)) [
      | inl here ↦ omega (arith, ap (times n) (without-drops ds r rs here), times-cons n r rs, times_without n ds rs)
      | inr away ↦ omega (arith, ap (times n) (without-keeps ds r rs away), times-cons n r rs, times-cons n r (without ds rs), times_without n ds rs)
    ]

-- what isn't there can be left out
pub without-absent : (r : SampleRange) (rs : List SampleRange) → has_range rs r ≡ false → without (r ∷ []) rs ≡ rs
without-absent r [] h = without-nil (r ∷ [])
without-absent r (s ∷ rs) h =
    let parts = or_parts (is_same s r) (has_range rs r) (sym (has-cons s rs r) ∙ h) in
    let off : has_range (r ∷ []) s ≡ false = has-one r s ∙ (same-swap r s ∙ parts.0) in
    without-keeps (r ∷ []) s rs off ∙ ap (λ l. s ∷ l) (without-absent r rs parts.1)

-- one range taken out of disjoint ones
pub total-taken : (w : ℕ → ℕ) (r : SampleRange) (rs : List SampleRange) → AreFilled rs → ((n : ℕ) → times n rs ≤ 1) → has_range rs r ≡ true
    → total w (without (r ∷ []) rs) + weight_of w r ≡ total w rs
total-taken w r [] f once h = absurd (false≢true (sym (has-nil r) ∙ h))
total-taken w r (s ∷ rs) f once h =
    elim (cases_Bool (is_same s r)) [
      | inl same ↦
          let e = same_is s r same in
          let there : has_range (r ∷ []) s ≡ true = has-one r s ∙ (same-swap r s ∙ same) in
          let counted : cond (has_sample s.first s) 1 0 ≡ suc zero = ap (λ b. cond b 1 0) (first_inside s f.0) in
          let absent : has_range rs r ≡ false = absent_if (λ t. absurd (omega (arith, has_times rs r s.first t (subst (λ x. has_sample s.first x ≡ true) e (first_inside s f.0)), once s.first, times-cons s.first s rs, counted))) in
          let left : without (r ∷ []) (s ∷ rs) ≡ rs = without-drops (r ∷ []) s rs there ∙ without-absent r rs absent in
          rw (left, sym e) (omega (arith, total-cons w s rs))
      | inr other ↦
          let off : has_range (r ∷ []) s ≡ false = has-one r s ∙ (same-swap r s ∙ other) in
          let rest_has : has_range rs r ≡ true = sym (has-cons s rs r ∙ rw other refl) ∙ h in
          let rest = total-taken w r rs f.1 (λ n. omega (arith, once n, times-cons n s rs)) rest_has in
          rw (without-keeps (r ∷ []) s rs off) (omega (arith, total-cons w s (without (r ∷ []) rs), total-cons w s rs))
    ]
  where
    absent_if : (has_range rs r ≡ true → ⊥) → has_range rs r ≡ false
    absent_if h = false_from_ne_true (has_range rs r) h

-- the range at a place of disjoint ranges, taken out
has_at : (rs : List SampleRange) (i : ℕ) (r : SampleRange) → slice_get rs i ≡ Some r → has_range rs r ≡ true
has_at [] i r h = absurd cc
has_at (s ∷ rs) zero r h = let e : s ≡ r = cc in has-cons s rs r ∙ rw e (ap (λ b. b || has_range rs r) (is_same-self r))
has_at (s ∷ rs) (suc i) r h = has-cons s rs r ∙ or_right (is_same s r) (has_range rs r) (has_at rs i r h)

twice : (s : SampleRange) (rs : List SampleRange) → 1 ≤ s.count → has_range rs s ≡ true → ((n : ℕ) → times n (s ∷ rs) ≤ 1) → ⊥
twice s rs full there once =
    let inside = first_inside s full in
    let counted : cond (has_sample s.first s) 1 0 ≡ suc zero = ap (λ b. cond b 1 0) inside in
    omega (arith, has_times rs s s.first there inside, once s.first, times-cons s.first s rs, counted)

pub without-place : (rs : List SampleRange) (i : ℕ) (r : SampleRange) → AreFilled rs → ((n : ℕ) → times n rs ≤ 1) → slice_get rs i ≡ Some r
    → without (r ∷ []) rs ≡ take i rs ++ drop (suc i) rs
without-place [] i r f once h = absurd cc
without-place (s ∷ rs) zero r f once h =
    let e : s ≡ r = cc in
    let there : has_range (r ∷ []) s ≡ true = has-one r s ∙ rw e (is_same-self r) in
    let absent : has_range rs r ≡ false = false_from_ne_true (has_range rs r) (λ t. twice s rs f.0 (subst (λ x. has_range rs x ≡ true) (sym e) t) once) in
    without-drops (r ∷ []) s rs there ∙ without-absent r rs absent
without-place (s ∷ rs) (suc i) r f once h =
    let behind = has_at rs i r h in
    let other : is_same s r ≡ false = false_from_ne_true (is_same s r) (λ t. twice s rs f.0 (subst (λ x. has_range rs x ≡ true) (sym (same_is s r t)) behind) once) in
    let off : has_range (r ∷ []) s ≡ false = has-one r s ∙ (same-swap r s ∙ other) in
    without-keeps (r ∷ []) s rs off ∙ ap (λ l. s ∷ l) (without-place rs i r f.1 (λ n. omega (arith, once n, times-cons n s rs)) h)

-- a search for a range
pub has-take-more : (rs : List SampleRange) (i : ℕ) (d r : SampleRange) → i < length rs → has_range (take i rs) r ≡ false → is_same (get_or rs i d) r ≡ false → has_range (take (i + 1) rs) r ≡ false
has-take-more rs i d r l none_yet here =
    rw (take_more rs i d l) (has-append (take i rs) (get_or rs i d ∷ []) r ∙ rw (none_yet) (has-one (get_or rs i d) r ∙ here))

pub get_is : (rs : List SampleRange) (i : ℕ) (d r : SampleRange) → i < length rs → is_same (get_or rs i d) r ≡ true → slice_get rs i ≡ Some r
get_is [] i d r l h = absurd (omega arith)
get_is (s ∷ rs) zero d r l h = ap Some (same_is s r h)
get_is (s ∷ rs) (suc i) d r l h = get_is rs i d r (omega arith) h
