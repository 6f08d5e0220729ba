use Rattle.std.proofs.Common.{◌≡◌, ◌≢◌, ℕ, zero, suc, ◌-◌, ◌<◌, ◌≤◌, ◌==◌, Bool, true, false, if◌then◌else◌, List, [], ◌∷◌, length, get_or, take, drop, refl, sym, ap, ◌∙◌, arith, nat_le, le-leb}
use Rattle.std.proofs.lemmas.Bool.{false≢true}
use Rattle.std.proofs.lemmas.Bool.Decides.{nat_tests}
use Rattle.csv.specs.Reading.{strip_bom, is_bom}
use Rattle.system_tables.specs.Records.{has_mark, without_front, spaces_at, without_end}

if-true : {A : Type 0} (b : Bool) (x y : A) → b ≡ true → (if b then x else y) ≡ x
if-true true x y e = refl
if-true false x y e = absurd (false≢true e)

if-false : {A : Type 0} (b : Bool) (x y : A) → b ≡ false → (if b then x else y) ≡ y
if-false true x y e = absurd (false≢true (sym e))
if-false false x y e = refl

long : (a b c : ℕ) (rest : List ℕ) → nat_le 3 (length (a ∷ b ∷ c ∷ rest)) ≡ true
long a b c rest =
    let h : 3 ≤ length (a ∷ b ∷ c ∷ rest) = omega arith in
    le-leb 3 (length (a ∷ b ∷ c ∷ rest)) h

-- a marked table begins with its mark
pub strip_marked : (table : List ℕ) → has_mark table ≡ true → strip_bom table ≡ drop 3 table
unfolding strip_bom
strip_marked [] m = absurd (false≢true m)
strip_marked (a ∷ []) m = absurd (false≢true m)
strip_marked (a ∷ b ∷ []) m = absurd (false≢true m)
strip_marked (a ∷ b ∷ c ∷ rest) m = if-true (is_bom a b c) rest (a ∷ b ∷ c ∷ rest) (rw (long a b c rest) at m)

pub strip_unmarked : (table : List ℕ) → has_mark table ≡ false → strip_bom table ≡ table
unfolding strip_bom
strip_unmarked [] m = refl
strip_unmarked (a ∷ []) m = refl
strip_unmarked (a ∷ b ∷ []) m = refl
strip_unmarked (a ∷ b ∷ c ∷ rest) m = if-false (is_bom a b c) rest (a ∷ b ∷ c ∷ rest) (rw (long a b c rest) at m)

is-space : (b : ℕ) → b ≡ 32 → (b == 32) ≡ true
is-space b e = rw e refl

no-space : (b : ℕ) → b ≢ 32 → (b == 32) ≡ false
no-space b e = grind (arith, nat_tests)

-- where the spaces in front end
pub front_is : (field : List ℕ) (n : ℕ)
    → n ≤ length field
    → ((k : ℕ) → k < n → get_or field k 0 ≡ 32)
    → (n < length field → get_or field n 0 ≢ 32)
    → without_front field ≡ drop n field
unfolding without_front
front_is [] zero size spaces other = refl
front_is [] (suc n) size spaces other = absurd (omega arith)
front_is (b ∷ bs) zero size spaces other =
    if-false (b == 32) (without_front bs) (b ∷ bs) (no-space b (other (omega arith)))
front_is (b ∷ bs) (suc n) size spaces other =
    if-true (b == 32) (without_front bs) (b ∷ bs) (is-space b (spaces 0 (omega arith)))
    ∙ front_is bs n (omega arith) (λ k h. spaces (suc k) (omega arith)) (λ h. other (omega arith))

shifted : (b : ℕ) (bs : List ℕ) (n : ℕ)
    → get_or (b ∷ bs) (suc (suc n) - 1) 0 ≢ 32
    → 0 < suc n
    → get_or bs (suc n - 1) 0 ≢ 32
shifted b bs n other some =
    let before : suc n - 1 ≡ n = omega arith in
    let after : suc (suc n) - 1 ≡ suc n = omega arith in
    rw before (rw after at other)

-- where the spaces at the end begin
spaces-is : (field : List ℕ) (n : ℕ)
    → n ≤ length field
    → ((k : ℕ) → n ≤ k → k < length field → get_or field k 0 ≡ 32)
    → (0 < n → get_or field (n - 1) 0 ≢ 32)
    → spaces_at field ≡ n
unfolding spaces_at
spaces-is [] n size spaces other = omega arith
spaces-is (b ∷ bs) zero size spaces other =
    let before : spaces_at bs ≡ 0 =
    spaces-is bs 0 (omega arith) (λ k l h. spaces (suc k) (omega arith) (omega arith)) (λ h. absurd (omega arith)) in
    let space : (b == 32) ≡ true = is-space b (spaces 0 (omega arith) (omega arith)) in
    rw (before, space) refl
spaces-is (b ∷ bs) (suc zero) size spaces other =
    let before : spaces_at bs ≡ 0 =
    spaces-is bs 0 (omega arith) (λ k l h. spaces (suc k) (omega arith) (omega arith)) (λ h. absurd (omega arith)) in
    let space : (b == 32) ≡ false = no-space b (other (omega arith)) in
    rw (before, space) refl
spaces-is (b ∷ bs) (suc (suc n)) size spaces other =
    let before : spaces_at bs ≡ suc n =
    spaces-is bs (suc n) (omega arith) (λ k l h. spaces (suc k) (omega arith) (omega arith)) (shifted b bs n (other (omega arith))) in
    let more : (suc n == 0) ≡ false = grind (arith, nat_tests) in
    rw (before, more) (omega arith)

pub end_is : (field : List ℕ) (n : ℕ)
    → n ≤ length field
    → ((k : ℕ) → n ≤ k → k < length field → get_or field k 0 ≡ 32)
    → (0 < n → get_or field (n - 1) 0 ≢ 32)
    → without_end field ≡ take n field
end_is field n size spaces other = ap (λ m. take m field) (spaces-is field n size spaces other)
