use Rattle.std.proofs.Common.{◌≡◌, ℕ, zero, suc, ◌+◌, ◌<◌, ◌≤◌, inl, inr, List, [], ◌∷◌, ◌++◌, map, reverse, ap, sym, ◌∙◌, subst, arith}
use Rattle.std.proofs.lemmas.List.{reverse-append, append_assoc, append-nil}
use Rattle.std.proofs.lemmas.Bool.{cases_eq}
use Rattle.std.specs.List.{range_with_len}
use Rattle.zone_network.specs.Dispatch.{Precedes}

-- A list that is compared from its first number on doesn't come first where each of its numbers is at least the
-- other's as soon as all before it agree.

not_precedes-cons : (x y : ℕ) (xs ys : List ℕ)
    → y ≤ x
    → (x ≡ y → ¬ Precedes xs ys)
    → ¬ Precedes (x ∷ xs) (y ∷ ys)
not_precedes-cons x y xs ys most rest before =
    elim before [
      | inl less ↦ absurd (omega arith)
      | inr same ↦ rest same.0 same.1
    ]

-- numbers by place, from a place on
pub not_precedes-range : (f g : ℕ → ℕ) (start len : ℕ) (xs ys : List ℕ)
    → ((k : ℕ) → start ≤ k → k < start + len → ((i : ℕ) → start ≤ i → i < k → f i ≡ g i) → g k ≤ f k)
    → (((i : ℕ) → start ≤ i → i < start + len → f i ≡ g i) → ¬ Precedes xs ys)
    → ¬ Precedes (map f (range_with_len start len) ++ xs) (map g (range_with_len start len) ++ ys)
not_precedes-range f g start zero xs ys each rest = rest (λ i from below. absurd (omega arith))
not_precedes-range f g start (suc len) xs ys each rest =
    not_precedes-cons (f start) (g start) (map f (range_with_len (start + 1) len) ++ xs) (map g (range_with_len (start + 1) len) ++ ys)
    (each start (omega arith) (omega arith) (λ i from below. absurd (omega arith)))
    (λ same.
    not_precedes-range f g (start + 1) len xs ys
    (λ k from below before. each k (omega arith) (omega arith) (agree_from f g start k same before))
    (λ all. rest (agree_from f g start (start + suc len) same (λ i from below. all i from (omega arith)))))
  where
    agree_from : (f g : ℕ → ℕ) (start end : ℕ)
        → f start ≡ g start
        → ((i : ℕ) → start + 1 ≤ i → i < end → f i ≡ g i)
        → (i : ℕ)
        → start ≤ i
        → i < end
        → f i ≡ g i
    agree_from f g start end same after i from below =
        elim (cases_eq i start) [
          | inl here ↦ ap f here ∙ same ∙ ap g (sym here)
          | inr other ↦ after i (omega arith) below
        ]

range_more : (a n : ℕ) → range_with_len a (suc n) ≡ range_with_len a n ++ (a + n) ∷ []
range_more a zero = ap (λ (x : ℕ). x ∷ []) (omega arith)
range_more a (suc n) =
    let place : a + 1 + n ≡ a + suc n = omega arith in
    ap (λ (xs : List ℕ). a ∷ xs) (range_more (a + 1) n ∙ ap (λ (x : ℕ). range_with_len (a + 1) n ++ x ∷ []) place)

pub reverse-range : (n : ℕ) → reverse (range_with_len 0 (suc n)) ≡ n ∷ reverse (range_with_len 0 n)
reverse-range n =
    let place : 0 + n ≡ n = omega arith in
    ap reverse (range_more 0 n)
    ∙ reverse-append (range_with_len 0 n) ((0 + n) ∷ [])
    ∙ ap (λ (x : ℕ). x ∷ reverse (range_with_len 0 n)) place

-- numbers by place, from the last place down
pub not_precedes-reversed : (f g : ℕ → ℕ) (len end : ℕ) (xs ys : List ℕ)
    → len ≤ end
    → ((k : ℕ) → k < len → ((i : ℕ) → k < i → i < end → f i ≡ g i) → g k ≤ f k)
    → ((i : ℕ) → len ≤ i → i < end → f i ≡ g i)
    → (((i : ℕ) → i < end → f i ≡ g i) → ¬ Precedes xs ys)
    → ¬ Precedes (map f (reverse (range_with_len 0 len)) ++ xs) (map g (reverse (range_with_len 0 len)) ++ ys)
not_precedes-reversed f g zero end xs ys within each above rest = rest (λ i below. above i (omega arith) below)
not_precedes-reversed f g (suc len) end xs ys within each above rest =
    let P : List ℕ → Type 0 = λ places. ¬ Precedes (map f places ++ xs) (map g places ++ ys) in
    subst P (sym (reverse-range len))
    (not_precedes-cons (f len) (g len) (map f (reverse (range_with_len 0 len)) ++ xs) (map g (reverse (range_with_len 0 len)) ++ ys)
    (each len (omega arith) (λ i past below. above i (omega arith) below))
    (λ same.
    not_precedes-reversed f g len end xs ys (omega arith) (λ k below after. each k (omega arith) after) (agree_down f g len end same above) rest))
  where
    agree_down : (f g : ℕ → ℕ) (len end : ℕ)
        → f len ≡ g len
        → ((i : ℕ) → suc len ≤ i → i < end → f i ≡ g i)
        → (i : ℕ)
        → len ≤ i
        → i < end
        → f i ≡ g i
    agree_down f g len end same above i from below =
        elim (cases_eq i len) [
          | inl here ↦ ap f here ∙ same ∙ ap g (sym here)
          | inr other ↦ above i (omega arith) below
        ]

-- three lists after one another, as they stand in the list that dispatches are compared by
pub not_precedes-three : (xs ys zs us vs ws : List ℕ)
    → ¬ Precedes (xs ++ (ys ++ (zs ++ []))) (us ++ (vs ++ (ws ++ [])))
    → ¬ Precedes (xs ++ ys ++ zs) (us ++ vs ++ ws)
not_precedes-three xs ys zs us vs ws h =
    let left : xs ++ (ys ++ (zs ++ [])) ≡ xs ++ ys ++ zs =
    ap (λ (end : List ℕ). xs ++ (ys ++ end)) (append-nil zs) ∙ sym (append_assoc xs ys zs) in
    let right : us ++ (vs ++ (ws ++ [])) ≡ us ++ vs ++ ws =
    ap (λ (end : List ℕ). us ++ (vs ++ end)) (append-nil ws) ∙ sym (append_assoc us vs ws) in
    let P : List ℕ → Type 0 = λ list. ¬ Precedes list (us ++ vs ++ ws) in
    let Q : List ℕ → Type 0 = λ list. ¬ Precedes (xs ++ (ys ++ (zs ++ []))) list in
    subst P left (subst Q right h)
