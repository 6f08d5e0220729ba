-- Texts and lists that grow by one piece at their end.
use Rattle.std.proofs.Common.{◌≡◌, ℕ, zero, suc, ◌+◌, Bool, true, false, List, [], ◌∷◌, ◌++◌, refl, sym, ap, ◌∙◌, append_assoc, arith}
use Rattle.std.specs.Prelude.{filter, if◌then◌else◌}
use Rattle.std.specs.List.{range_with_len, flat_map, join_by}
use Rattle.std.proofs.lemmas.Grind.{flat_map-append}
use Rattle.std.proofs.lemmas.List.{append-nil}
use Rattle.std.proofs.lemmas.List.Elements.{filter-append}

range_from-more : (a n : ℕ) → range_with_len a (suc n) ≡ range_with_len a n ++ (a + n) ∷ []
range_from-more a zero =
    let last : a ≡ a + 0 = omega arith in
    ap (λ (k : ℕ). k ∷ []) last
range_from-more a (suc n) =
    let last : a + 1 + n ≡ a + suc n = omega arith in
    ap (λ (ks : List ℕ). a ∷ ks) (range_from-more (a + 1) n ∙ ap (λ (k : ℕ). range_with_len (a + 1) n ++ k ∷ []) last)

-- one more number
pub range-more : (n : ℕ) → range_with_len 0 (n + 1) ≡ range_with_len 0 n ++ n ∷ []
range-more n =
    let more : n + 1 ≡ suc n = omega arith in
    let last : 0 + n ≡ n = omega arith in
    ap (λ (k : ℕ). range_with_len 0 k) more ∙ range_from-more 0 n ∙ ap (λ (k : ℕ). range_with_len 0 n ++ k ∷ []) last

-- one more piece
pub flat_map-more : {X : Type 0} (f : X → List ℕ) (xs : List X) (x : X) → flat_map f (xs ++ x ∷ []) ≡ flat_map f xs ++ f x
flat_map-more f xs x = flat_map-append f xs (x ∷ []) ∙ ap (λ (t : List ℕ). flat_map f xs ++ t) (append-nil (f x))

-- the text of the numbers below n + 1
pub flat_map-range-more : (f : ℕ → List ℕ) (n : ℕ) → flat_map f (range_with_len 0 (n + 1)) ≡ flat_map f (range_with_len 0 n) ++ f n
flat_map-range-more f n = ap (flat_map f) (range-more n) ∙ flat_map-more f (range_with_len 0 n) n

-- one more number that passes a test, or doesn't
filter-range-yes : (p : ℕ → Bool) (n : ℕ) → p n ≡ true → filter p (range_with_len 0 (n + 1)) ≡ filter p (range_with_len 0 n) ++ n ∷ []
filter-range-yes p n is = ap (filter p) (range-more n) ∙ filter-append p (range_with_len 0 n) (n ∷ []) ∙ rw is refl

filter-range-no : (p : ℕ → Bool) (n : ℕ) → p n ≡ false → filter p (range_with_len 0 (n + 1)) ≡ filter p (range_with_len 0 n)
filter-range-no p n out = ap (filter p) (range-more n) ∙ filter-append p (range_with_len 0 n) (n ∷ []) ∙ rw out (append-nil _)

-- a list is empty
abbrev pub is_none : {X : Type 0} → List X → Bool
is_none [] = true
is_none (x ∷ xs) = false

-- one more joined piece, which has the separator in front unless it is the first
join_by-more : {X : Type 0} (f : X → List ℕ) (sep : List ℕ) (xs : List X) (x : X) → join_by f sep (xs ++ x ∷ []) ≡ join_by f sep xs ++ ((if is_none xs then [] else sep) ++ f x)
join_by-more f sep [] x = append-nil (f x)
join_by-more f sep (first ∷ xs) x =
    ap (λ (t : List ℕ). f first ++ t) (flat_map-more (λ y. sep ++ f y) xs x) ∙ sym (append_assoc (f first) _ _)

-- of the numbers below `end`, the texts of those that pass a test were appended, joined by `+`; `first` tells whether
-- there was none
pub record Joined (f : ℕ → List ℕ) (p : ℕ → Bool) (end : ℕ) (before now : List ℕ) (first : Bool) : Type 0 where
  pub text : now ≡ before ++ join_by f (43 ∷ []) (filter p (range_with_len 0 end))
  pub none : first ≡ is_none (filter p (range_with_len 0 end))

pub Joined-none : (f : ℕ → List ℕ) (p : ℕ → Bool) (before : List ℕ) → Joined f p 0 before before true
Joined-none f p before = record { text = sym (append-nil before); none = refl }

pub Joined-yes : (f : ℕ → List ℕ) (p : ℕ → Bool) (n : ℕ) (before now now' piece : List ℕ) (first : Bool) → Joined f p n before now first → p n ≡ true → piece ≡ f n → now' ≡ now ++ ((if first then [] else 43 ∷ []) ++ piece) → Joined f p (n + 1) before now' false
Joined-yes f p n before now now' piece first joined passes is more =
    let grown = filter-range-yes p n passes in
    record {
      text = rw (more, joined.text, joined.none, is, grown, join_by-more f (43 ∷ []) (filter p (range_with_len 0 n)) n) (append_assoc before _ _);
      none = rw grown (not_empty (filter p (range_with_len 0 n)) n);
    }
  where
    not_empty : (ns : List ℕ) (n : ℕ) → false ≡ is_none (ns ++ n ∷ [])
    not_empty [] n = refl
    not_empty (m ∷ ns) n = refl

pub Joined-no : (f : ℕ → List ℕ) (p : ℕ → Bool) (n : ℕ) (before now : List ℕ) (first : Bool) → Joined f p n before now first → p n ≡ false → Joined f p (n + 1) before now first
Joined-no f p n before now first joined out =
    let same = filter-range-no p n out in
    record { text = rw same joined.text; none = rw same joined.none }

-- the lemmas of loops that append
pub ruleset text_steps = (flat_map-more, flat_map-range-more, append_assoc)
