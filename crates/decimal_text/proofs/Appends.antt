-- A number with a point as the three pieces that are appended.
use Rattle.std.proofs.Common.{◌≡◌, ℕ, suc, ◌+◌, ◌-◌, ◌/◌, ◌%◌, ◌^◌, ◌≤◌, length, arith, List, [], ◌∷◌, ◌++◌, take, refl, sym, ap, subst, ◌∙◌, append_assoc, add_comm}
use Rattle.std.specs.Prelude.{replicate, decimal}
use Rattle.std.proofs.lemmas.List.{take-replicate}
use Rattle.decimal_text.specs.DecimalText.{whole_text, padded_text, fixed_text}

-- zeros cut from a row of twelve, and the digits
pub padded_is : (value places len : ℕ) (digits : List ℕ) → digits ≡ decimal value → len ≡ places → places ≤ 12 → padded_text value places ≡ take (len - length digits) (replicate {A = ℕ} 12 48) ++ digits
padded_is value places len digits d l few =
    let cut : take (places - length (decimal value)) (replicate {A = ℕ} 12 48) ≡ replicate (places - length (decimal value)) 48 = take-replicate (places - length (decimal value)) 12 48 (omega arith) in
    rw (d, l, cut) refl

-- the two pieces of a number with a point
pub fixed_is : (value places unit given : ℕ) → given ≡ unit → unit ≡ 10 ^ places → fixed_text value places ≡ whole_text (value / given) ++ 46 ∷ padded_text (value % given) places
unfolding fixed_text
fixed_is value places unit given g u = rw (g, u) refl

-- digits, a point with zeros and digits again, pushed one behind the other
pub pieces_are : (out whole digits text : List ℕ) (zeros : ℕ) → text ≡ whole ++ 46 ∷ (take zeros (replicate {A = ℕ} 12 48) ++ digits) → out ++ whole ++ take (1 + zeros) (46 ∷ replicate {A = ℕ} 12 48) ++ digits ≡ out ++ text
pieces_are out whole digits text zeros e =
    let one : 1 + zeros ≡ suc zeros = omega arith in
    let cut : take (1 + zeros) (46 ∷ replicate {A = ℕ} 12 48) ≡ 46 ∷ take zeros (replicate {A = ℕ} 12 48) = ap (λ (n : ℕ). take n (46 ∷ replicate {A = ℕ} 12 48)) one in
    rw (cut, e) (simp append_assoc)
