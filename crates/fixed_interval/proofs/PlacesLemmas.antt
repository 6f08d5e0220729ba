-- Digits written behind a 1 that gives way to the point.
use Rattle.std.proofs.Common.{◌≡◌, ℕ, zero, suc, ◌+◌, ◌-◌, ◌*◌, ◌/◌, ◌%◌, ◌^◌, ◌<◌, ◌≤◌, List, [], ◌∷◌, ◌++◌, length, length-drop, take, ap, refl, ◌∙◌, sym, arith, drop}
use Rattle.std.specs.Prelude.{slice_set, decimal}
use Rattle.std.proofs.Math.Nat.{pow-suc, div-div-eq-div-mul}
use Rattle.std.proofs.lemmas.Fmt.{decimal_digit, decimal_step}
use Rattle.std.proofs.lemmas.List.{take_all, append-nil, drop-drop}
use Rattle.std.proofs.lemmas.Grind.{drop-set_at}
use Rattle.std.proofs.lemmas.Nat.{div-mul-add, mod-mul-add}
use Rattle.fixed_interval.specs.Places.{last_digits, places_text}

-- the last digit by itself
last_digits_end : (k v : ℕ) → last_digits (suc k) v ≡ last_digits k (v / 10) ++ ((48 + (v % 10)) ∷ [])
last_digits_end zero v =
    let all : v / 1 ≡ v = omega arith in ap (λ n. (48 + (n % 10)) ∷ []) all
last_digits_end (suc k) v =
    let power : 10 * 10 ^ k ≡ 10 ^ suc k = omega (arith, pow-suc 10 k) in
    let first : v / 10 / (10 ^ k) ≡ v / (10 ^ suc k) = div-div-eq-div-mul v 10 (10 ^ k) ∙ ap (λ n. v / n) power in
    ap (λ n. (48 + (n % 10)) ∷ last_digits (suc k) v) (sym first)
    ∙ ap (λ xs. (48 + ((v / 10 / (10 ^ k)) % 10)) ∷ xs) (last_digits_end k v)

length-last_digits : (k v : ℕ) → length (last_digits k v) ≡ k
length-last_digits zero v = refl
length-last_digits (suc k) v = ap (λ n. suc n) (length-last_digits k v)

-- the digits behind a 1
decimal_after_one : (k v : ℕ) → v < 10 ^ k → 10 ^ k + v < 2 ^ 64 → decimal (10 ^ k + v) ≡ 49 ∷ last_digits k v
decimal_after_one zero v h fits =
    let one : 1 + v ≡ 1 = omega arith in ap decimal one ∙ decimal_digit 1 (omega arith)
decimal_after_one (suc k) v h fits =
    let power : 10 ^ suc k ≡ 10 ^ k * 10 = pow-suc 10 k in
    let more : 10 ≤ 10 ^ suc k + v = omega arith in
    let front : (10 ^ suc k + v) / 10 ≡ 10 ^ k + v / 10 = omega arith in
    let digit : (10 ^ suc k + v) % 10 ≡ v % 10 = omega arith in
    decimal_step (10 ^ suc k + v) more fits
    ∙ ap (λ n. decimal n ++ ((48 + ((10 ^ suc k + v) % 10)) ∷ [])) front
    ∙ ap (λ n. decimal (10 ^ k + v / 10) ++ ((48 + n) ∷ [])) digit
    ∙ ap (λ xs. xs ++ ((48 + (v % 10)) ∷ [])) (decimal_after_one k (v / 10) (omega arith) (omega arith))
    ∙ ap (λ xs. 49 ∷ xs) (sym (last_digits_end k v))

pub length-after_one : (v : ℕ) → v < 10 ^ 12 → length (decimal (10 ^ 12 + v)) ≡ 13
length-after_one v h =
    ap length (decimal_after_one 12 v h (omega arith)) ∙ ap (λ n. suc n) (length-last_digits 12 v)

-- the point in the place of the 1
point_before : (v point : ℕ) (ds : List ℕ) → v < 10 ^ 12 → point < length ds → drop point ds ≡ decimal (10 ^ 12 + v)
    → drop point (slice_set ds point 46) ≡ 46 ∷ last_digits 12 v
point_before v point ds h within written =
    let behind : drop (point + 1) ds ≡ last_digits 12 v
    = sym (drop-drop 1 point ds) ∙ ap (λ xs. drop 1 xs) (written ∙ decimal_after_one 12 v h (omega arith)) in
    drop-set_at ds point point 46 refl within ∙ ap (λ xs. 46 ∷ xs) behind

-- the whole part, the point and the twelve digits
pub places_text-from_parts : (whole v point start : ℕ) (none ds buffer : List ℕ) → v < 10 ^ 12
    → length ds ≡ 33 → length buffer ≡ 33 → none ≡ [] → point < 33
    → drop point ds ≡ decimal (10 ^ 12 + v) ++ none
    → drop start buffer ≡ decimal whole ++ drop point (slice_set ds point 46)
    → take (33 - start) (drop start buffer) ≡ places_text (whole * (10 ^ 12) + v)
unfolding places_text
places_text-from_parts whole v point start none ds buffer h l m empty within places text =
    let all : take (33 - start) (drop start buffer) ≡ drop start buffer = take_all (33 - start) (drop start buffer) (simp length-drop (omega arith)) in
    let alone : drop point ds ≡ decimal (10 ^ 12 + v)
    = places ∙ ap (λ xs. decimal (10 ^ 12 + v) ++ xs) empty ∙ append-nil (decimal (10 ^ 12 + v)) in
    all ∙ text ∙ ap (λ xs. decimal whole ++ xs) (point_before v point ds h (omega arith) alone)
    ∙ ap (λ n. decimal n ++ (46 ∷ last_digits 12 v)) (sym (div-mul-add whole (10 ^ 12) v h))
    ∙ ap (λ n. decimal ((whole * (10 ^ 12) + v) / (10 ^ 12)) ++ (46 ∷ last_digits 12 n)) (sym (mod-mul-add whole (10 ^ 12) v h))
