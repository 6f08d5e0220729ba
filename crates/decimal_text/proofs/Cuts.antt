-- Digits on the two sides of a point, cut where their weight falls below one.
use Rattle.std.proofs.Common.{◌≡◌, ℕ, suc, ◌+◌, ◌-◌, ◌*◌, ◌^◌, ◌<◌, ◌≤◌, inl, inr, min, Bool, true, false, cond, eqb, List, [], ◌∷◌, ◌++◌, length, take, drop, Option, None, Some, refl, sym, ap, subst, ◌∙◌, arith}
use Rattle.std.specs.Option.{option_map, option_or}
use Rattle.std.specs.Str.Parse.{digits_value, digits_value_after}
use Rattle.std.proofs.lemmas.Bool.{cases_lt, lt-ltb, le-ltb}
use Rattle.std.proofs.lemmas.List.{take-append-le, drop-append-le, take_all, length-append, length-drop, append-nil}
use Rattle.std.proofs.Math.Seq.{take-append-add, drop-append-add, drop-length}
use Rattle.std.proofs.Math.ListN.{drop_of_length-le}
use Rattle.decimal_text.specs.Numeral.{Numeral, digits_of}
use Rattle.decimal_text.specs.Faults.{place_of}
use Rattle.decimal_text.specs.Reading.{kept, scaled, first_not_zero, first_below_one}
use Rattle.decimal_text.specs.Scanning.{AreParts, IsKept, capped}
use Rattle.decimal_text.proofs.Digits.{FirstNotZero, first_not_zero_is, after_append}
use Rattle.decimal_text.proofs.Caps.{capped_after, capped_zeros}

take_least : (n : ℕ) (xs : List ℕ) → take n xs ≡ take (min n (length xs)) xs
take_least n xs = elim (cases_lt n (length xs)) [
  | inl lt ↦ let m : n ≡ min n (length xs) = omega arith in ap (λ (k : ℕ). take k xs) m
  | inr ge ↦ let m : length xs ≡ min n (length xs) = omega arith in take_all n xs ge ∙ sym (take_all (length xs) xs (omega arith)) ∙ ap (λ (k : ℕ). take k xs) m
]

drop_least : (n : ℕ) (xs : List ℕ) → drop n xs ≡ drop (min n (length xs)) xs
drop_least n xs = elim (cases_lt n (length xs)) [
  | inl lt ↦ let m : n ≡ min n (length xs) = omega arith in ap (λ (k : ℕ). drop k xs) m
  | inr ge ↦ let m : length xs ≡ min n (length xs) = omega arith in drop_of_length-le xs ge ∙ sym (drop_length-is xs) ∙ ap (λ (k : ℕ). drop k xs) m
]
  where
    drop_length-is : (xs : List ℕ) → drop (length xs) xs ≡ []
    drop_length-is xs = drop-length xs

pub take_cut : (k : ℕ) (w b : List ℕ) (before after : ℕ) → before ≡ min k (length w) → after ≡ min (k - length w) (length b) → take k (w ++ b) ≡ take before w ++ take after b
take_cut k w b before after p q = elim (cases_lt (length w) k) [
  | inr le ↦
      let first : k ≡ before = omega arith in
      let second : after ≡ 0 = omega arith in
      take-append-le k w b le ∙ sym (append-nil (take k w)) ∙ ap (λ (i : ℕ). take i w ++ take 0 b) first ∙ ap (λ (i : ℕ). take before w ++ take i b) (sym second)
  | inl lt ↦
      let whole : k ≡ length w + (k - length w) = omega arith in
      let all : length w ≡ before = omega arith in
      ap (λ (i : ℕ). take i (w ++ b)) whole ∙ take-append-add w b (k - length w)
      ∙ ap (λ (t : List ℕ). t ++ take (k - length w) b) (sym (take_all (length w) w (omega arith)) ∙ ap (λ (i : ℕ). take i w) all)
      ∙ ap (λ (t : List ℕ). take before w ++ t) (take_least (k - length w) b ∙ ap (λ (i : ℕ). take i b) (sym q))
]

pub drop_cut : (k : ℕ) (w b : List ℕ) (before after : ℕ) → before ≡ min k (length w) → after ≡ min (k - length w) (length b) → drop k (w ++ b) ≡ drop before w ++ drop after b
drop_cut k w b before after p q = elim (cases_lt (length w) k) [
  | inr le ↦
      let first : k ≡ before = omega arith in
      let second : after ≡ 0 = omega arith in
      drop-append-le k w b le ∙ ap (λ (i : ℕ). drop i w ++ drop 0 b) first ∙ ap (λ (i : ℕ). drop before w ++ drop i b) (sym second)
  | inl lt ↦
      let whole : k ≡ length w + (k - length w) = omega arith in
      let all : length w ≡ before = omega arith in
      ap (λ (i : ℕ). drop i (w ++ b)) whole ∙ drop-append-add w b (k - length w)
      ∙ drop_least (k - length w) b ∙ ap (λ (i : ℕ). drop i b) (sym q)
      ∙ ap (λ (t : List ℕ). t ++ drop after b) (sym (drop-length w) ∙ ap (λ (i : ℕ). drop i w) all)
]

-- ---- the number

pub scaled_parts : (shift : ℕ) (n : Numeral) (w b : List ℕ) (up low before after after_zeros first second : ℕ) → AreParts n w b up low → IsKept ((length w + shift + up) - low) w b before after after_zeros
    → first ≡ capped (digits_value_after 10 0 (take before w)) → second ≡ capped (digits_value_after 10 first (take after b)) → capped (second * 10 ^ after_zeros) ≡ capped (scaled shift n)
unfolding scaled
scaled_parts shift n w b up low before after after_zeros first second a k f s =
    let same : kept shift n ≡ (length w + shift + up) - low = rw (a.whole-is, a.up-is, a.low-is) refl in
    let digits : digits_of n ≡ w ++ b = rw (a.whole-is, a.behind-is) refl in
    let cut : take (kept shift n) (digits_of n) ≡ take before w ++ take after b =
    ap (λ (i : ℕ). take i (digits_of n)) same ∙ ap (λ (t : List ℕ). take ((length w + shift + up) - low) t) digits ∙ take_cut ((length w + shift + up) - low) w b before after k.before-is k.after-is in
    let number : second ≡ capped (digits_value 10 (take (kept shift n) (digits_of n))) =
    s ∙ ap (λ (x : ℕ). capped (digits_value_after 10 x (take after b))) f ∙ capped_after (digits_value 10 (take before w)) (take after b)
    ∙ ap (λ (x : ℕ). capped x) (sym (after_append 0 (take before w) (take after b))) ∙ ap (λ (t : List ℕ). capped (digits_value 10 t)) (sym cut) in
    let after_zeros-are : after_zeros ≡ kept shift n - length (digits_of n) = k.zeros-is ∙ ap (λ (x : ℕ). x - (length w + length b)) (sym same) ∙ ap (λ (x : ℕ). kept shift n - x) (sym (length-append w b) ∙ ap (λ (t : List ℕ). length t) (sym digits)) in
    ap (λ (x : ℕ). capped (x * 10 ^ after_zeros)) number ∙ capped_zeros (digits_value 10 (take (kept shift n) (digits_of n))) after_zeros
    ∙ ap (λ (x : ℕ). capped (digits_value 10 (take (kept shift n) (digits_of n)) * 10 ^ x)) after_zeros-are

-- ---- the first digit below one

no_shift : (o : Option ℕ) → o ≡ option_map (λ k. 0 + k) o
no_shift None = refl
no_shift (Some k) = ap (λ (i : ℕ). let s : Option ℕ = Some i in s) (omega arith)

one_shift : (t : Bool) (a b : Option ℕ) (len : ℕ) → cond t (option_map (λ k. suc k) (option_or a (option_map (λ k. len + k) b))) (Some 0) ≡ option_or (cond t (option_map (λ k. suc k) a) (Some 0)) (option_map (λ k. suc len + k) b)
one_shift false a b len = refl
one_shift true (Some i) b len = refl
one_shift true None None len = refl
one_shift true None (Some k) len = ap (λ (i : ℕ). let s : Option ℕ = Some i in s) (omega arith)

first_append : (xs ys : List ℕ) → first_not_zero (xs ++ ys) ≡ option_or (first_not_zero xs) (option_map (λ k. length xs + k) (first_not_zero ys))
first_append [] ys = no_shift (first_not_zero ys)
first_append (x ∷ xs) ys =
    ap (λ (o : Option ℕ). cond (eqb x 48) (option_map (λ k. suc k) o) (Some 0)) (first_append xs ys)
    ∙ one_shift (eqb x 48) (first_not_zero xs) (first_not_zero ys) (length xs)

first_cut : (n : Numeral) (w b : List ℕ) (up low before after after_zeros : ℕ) → AreParts n w b up low → IsKept ((length w + 0 + up) - low) w b before after after_zeros
    → first_below_one n ≡ option_map (λ k. place_of n (kept 0 n + k)) (option_or (first_not_zero (drop before w)) (option_map (λ k. length (drop before w) + k) (first_not_zero (drop after b))))
unfolding first_below_one
first_cut n w b up low before after after_zeros a k =
    let same : kept 0 n ≡ (length w + 0 + up) - low = rw (a.whole-is, a.up-is, a.low-is) refl in
    let digits : digits_of n ≡ w ++ b = rw (a.whole-is, a.behind-is) refl in
    let cut : drop (kept 0 n) (digits_of n) ≡ drop before w ++ drop after b =
    ap (λ (i : ℕ). drop i (digits_of n)) same ∙ ap (λ (t : List ℕ). drop ((length w + 0 + up) - low) t) digits ∙ drop_cut ((length w + 0 + up) - low) w b before after k.before-is k.after-is in
    ap (λ (t : List ℕ). option_map (λ k. place_of n (kept 0 n + k)) (first_not_zero t)) cut
    ∙ ap (λ (o : Option ℕ). option_map (λ k. place_of n (kept 0 n + k)) o) (first_append (drop before w) (drop after b))

place_before : (n : Numeral) (i len : ℕ) → len ≡ length n.whole → i < len → i ≡ place_of n i
place_before n i len e lt = rw (lt-ltb i (length n.whole) (omega arith)) refl

place_after : (n : Numeral) (i len : ℕ) → len ≡ length n.whole → len ≤ i → i + 1 ≡ place_of n i
place_after n i len e le = rw (le-ltb i (length n.whole) (omega arith)) refl

within : (ds : List ℕ) (z : ℕ) → first_not_zero ds ≡ Some z → z < length ds
within ds z e = let f : FirstNotZero ds (Some z) = subst (λ (o : Option ℕ). FirstNotZero ds o) e (first_not_zero_is ds) in f.0

pub found_before : (n : Numeral) (w b : List ℕ) (up low before after after_zeros z : ℕ) → AreParts n w b up low → IsKept ((length w + 0 + up) - low) w b before after after_zeros
    → first_not_zero (drop before w) ≡ Some z → Some (before + z) ≡ first_below_one n
found_before n w b up low before after after_zeros z a k e =
    let lt = within (drop before w) z e in
    let len = length-drop before w in
    let p = k.before-is in
    let same : kept 0 n ≡ (length w + 0 + up) - low = rw (a.whole-is, a.up-is, a.low-is) refl in
    let i-is : before + z ≡ kept 0 n + z = omega arith in
    sym (first_cut n w b up low before after after_zeros a k
    ∙ ap (λ (o : Option ℕ). option_map (λ k. place_of n (kept 0 n + k)) (option_or o (option_map (λ k. length (drop before w) + k) (first_not_zero (drop after b))))) e
    ∙ ap (λ (i : ℕ). let s : Option ℕ = Some i in s) (sym (i-is ∙ place_before n (kept 0 n + z) (length w) (ap (λ (t : List ℕ). length t) a.whole-is) (omega arith))))

pub found_after : (n : Numeral) (w b : List ℕ) (up low before after after_zeros z : ℕ) → AreParts n w b up low → IsKept ((length w + 0 + up) - low) w b before after after_zeros
    → first_not_zero (drop before w) ≡ None → first_not_zero (drop after b) ≡ Some z → Some (length w + 1 + after + z) ≡ first_below_one n
found_after n w b up low before after after_zeros z a k none e =
    let lt = within (drop after b) z e in
    let len = length-drop before w in
    let rest = length-drop after b in
    let p = k.before-is in
    let q = k.after-is in
    let same : kept 0 n ≡ (length w + 0 + up) - low = rw (a.whole-is, a.up-is, a.low-is) refl in
    let i-is : length w + 1 + after + z ≡ kept 0 n + (length (drop before w) + z) + 1 = omega arith in
    sym (first_cut n w b up low before after after_zeros a k
    ∙ ap (λ (o : Option ℕ). option_map (λ k. place_of n (kept 0 n + k)) (option_or o (option_map (λ k. length (drop before w) + k) (first_not_zero (drop after b))))) none
    ∙ ap (λ (o : Option ℕ). option_map (λ k. place_of n (kept 0 n + k)) (option_map (λ k. length (drop before w) + k) o)) e
    ∙ ap (λ (i : ℕ). let s : Option ℕ = Some i in s) (sym (i-is ∙ place_after n (kept 0 n + (length (drop before w) + z)) (length w) (ap (λ (t : List ℕ). length t) a.whole-is) (omega arith))))

pub found_none : (n : Numeral) (w b : List ℕ) (up low before after after_zeros : ℕ) → AreParts n w b up low → IsKept ((length w + 0 + up) - low) w b before after after_zeros
    → first_not_zero (drop before w) ≡ None → first_not_zero (drop after b) ≡ None → None ≡ first_below_one n
found_none n w b up low before after after_zeros a k none last =
    sym (first_cut n w b up low before after after_zeros a k
    ∙ ap (λ (o : Option ℕ). option_map (λ k. place_of n (kept 0 n + k)) (option_or o (option_map (λ k. length (drop before w) + k) (first_not_zero (drop after b))))) none
    ∙ ap (λ (o : Option ℕ). option_map (λ k. place_of n (kept 0 n + k)) (option_map (λ k. length (drop before w) + k) o)) last)

-- what `&xs[a..]` is
pub slice_rest : (a : ℕ) (xs : List ℕ) → first_not_zero (take (length xs - a) (drop a xs)) ≡ first_not_zero (drop a xs)
slice_rest a xs = ap first_not_zero (take_all (length xs - a) (drop a xs) (omega (arith, length-drop a xs)))
