-- Disjoint runs in order of their first samples ascend, and what stays where they are put in order.
use Rattle.std.proofs.Common.{◌≡◌, ℕ, zero, suc, ◌+◌, ◌<◌, ◌≤◌, inl, inr, true, cond, List, [], ◌∷◌, ◌++◌, map, length, get_or, take, All, ap, ◌∙◌, arith}
use Rattle.std.specs.List.Sorted.{IsNonDecreasingBy, IsPermutation}
use Rattle.std.proofs.lemmas.Bool.{cases_lt}
use Rattle.std.proofs.lemmas.Bool.Decides.{nat_tests}
use Rattle.std.proofs.lemmas.List.{take-take, take-append-le}
use Rattle.std.proofs.lemmas.List.Sorted.{IsPermutation-map, sum_by-IsPermutation}
use Rattle.campaign_core.specs.declared.run.SampleRange.{SampleRange}
use Rattle.campaign_core.specs.declared.run.Run.{Run}
use Rattle.campaign_core.specs.Ranges.{samples_of, has_sample, times, total, weight_of, AreSame}
use Rattle.campaign_core.specs.Joining.{Ascends}
use Rattle.campaign_core.proofs.Totals.{times-cons}

pub kept_front : {A : Type 0} (n len : ℕ) (xs ys : List A) → n ≤ length xs → length xs ≡ len → take n (take len (xs ++ ys)) ≡ take n xs
kept_front n len xs ys h e = take-take n len (xs ++ ys) (omega arith) ∙ take-append-le n xs ys h

-- ranges in another order have the same samples
pub same_permuted : (xs ys : List SampleRange) → IsPermutation xs ys → AreSame ys xs
unfolding total
same_permuted xs ys p w = sum_by-IsPermutation (weight_of w) xs ys p

pub same_permuted_runs : (xs ys : List Run) → IsPermutation xs ys → AreSame (map samples_of ys) (map samples_of xs)
same_permuted_runs xs ys p = same_permuted (map samples_of xs) (map samples_of ys) (IsPermutation-map samples_of xs ys p)

abbrev counted : ℕ → Run → ℕ
counted n j = cond (has_sample n (samples_of j)) 1 0

abbrev one : ℕ
one = 1

inside : (n : ℕ) (r : Run) → r.first ≤ n → n ≤ r.last → has_sample n (samples_of r) ≡ true
inside n r f l = grind (arith, nat_tests)

-- a sample of the run at some place is in the ranges
times_at : (n : ℕ) (js : List Run) (k : ℕ) (d : Run) → k < length js → (get_or js k d).first ≤ n → n ≤ (get_or js k d).last → 1 ≤ times n (map samples_of js)
times_at n [] k d h f l = absurd (omega arith)
times_at n (j ∷ js) zero d h f l =
    let yes_it : has_sample n (samples_of j) ≡ true = grind (arith, nat_tests) in
    let c : counted n j ≡ one = ap (λ b. cond b 1 0) yes_it in
    omega (arith, times-cons n (samples_of j) (map samples_of js), c)
times_at n (j ∷ js) (suc k) d h f l = omega (arith, times-cons n (samples_of j) (map samples_of js), times_at n js k d (omega arith) f l)

pub sorted_ascends : (low : ℕ) (js : List Run) → IsNonDecreasingBy (λ (r : Run). r.first) js → All (λ (r : Run). r.first ≤ r.last) js → ((n : ℕ) → times n (map samples_of js) ≤ 1)
    → ((k : ℕ) (d : Run) → k < length js → low ≤ (get_or js k d).first) → Ascends low js
sorted_ascends low [] up filled once h = tt
sorted_ascends low (j ∷ js) up filled once h = (
  h 0 j (omega arith),
  filled 0 j (omega arith),
  sorted_ascends (j.last + 1) js (λ a b d le l. up (suc a) (suc b) d (omega arith) (omega arith)) (λ k d l. filled (suc k) d (omega arith)) (λ n. omega (arith, once n, times-cons n (samples_of j) (map samples_of js))) (λ k d l. apart k d l),
)
  where
    apart : (k : ℕ) (d : Run) → k < length js → j.last + 1 ≤ (get_or js k d).first
    apart k d l =
        elim (cases_lt j.last (get_or js k d).first) [
          | inl more ↦ omega arith
          | inr le ↦
              let n = (get_or js k d).first in
              let behind : j.first ≤ n = up 0 (suc k) d (omega arith) (omega arith) in
              let there = times_at n js k d l (omega arith) (filled (suc k) d (omega arith)) in
              let here : has_sample n (samples_of j) ≡ true = inside n j behind le in
              let c : counted n j ≡ one = ap (λ b. cond b 1 0) here in
              absurd (omega (arith, once n, times-cons n (samples_of j) (map samples_of js), c))
        ]
