-- The place of a fault: the longest front of a field that begins some numeral.
use Rattle.std.proofs.Common.{◌≡◌, ℕ, suc, ◌+◌, ◌-◌, ◌≤◌, inl, inr, List, [], ◌∷◌, ◌++◌, length, take, Ok, Err, refl, sym, ap, subst, ◌∙◌, append_assoc, arith}
use Rattle.std.proofs.lemmas.Bool.{cases_lt}
use Rattle.std.proofs.lemmas.List.{length-append}
use Rattle.std.proofs.Math.Seq.{take-append_seam, take-append-add}
use Rattle.decimal_text.specs.Numeral.{Numeral, Spells}
use Rattle.decimal_text.specs.Faults.{Begins, IsLongestBegin}
use Rattle.decimal_text.specs.Reading.{nothing, read_on}
use Rattle.decimal_text.proofs.Spelled.{nothing_begun, IsStuck, StopsAt, fault_stops, begun_begins, err_is_not, spelled_is_read, stops}

-- where reading stops, no numeral goes on with one byte more
no_longer : (m : Numeral) (front rest : List ℕ) (j : ℕ) (after : List ℕ) (n : Numeral) → ((ys : List ℕ) → read_on nothing (front ++ ys) ≡ read_on m ys) → IsStuck m rest → suc j ≤ length rest
    → Spells n (take (length front + suc j) (front ++ rest) ++ after) → ⊥
no_longer m front [] j after n goes stuck le sp = absurd (omega arith)
no_longer m front (b ∷ bs) j after n goes stuck le sp =
    let bytes : take (length front + suc j) (front ++ b ∷ bs) ++ after ≡ front ++ b ∷ (take j bs ++ after) =
    ap (λ (t : List ℕ). t ++ after) (take-append-add front (b ∷ bs) (suc j)) ∙ append_assoc front (b ∷ take j bs) after in
    let read : read_on nothing (front ++ b ∷ (take j bs ++ after)) ≡ Ok n = ap (read_on nothing) (sym bytes) ∙ spelled_is_read n _ sp in
    err_is_not (b ∷ (take j bs ++ after)) n (sym (stops m b (take j bs ++ after) stuck) ∙ sym (goes (b ∷ (take j bs ++ after))) ∙ read)

split_longest : (front rest : List ℕ) (m : Numeral) → StopsAt nothing (front ++ rest) rest m front → IsLongestBegin (front ++ rest) (length front)
split_longest front rest m s = record {
  within = omega (arith, length-append front rest);
  begins = subst Begins (s.bytes ∙ sym (take-append_seam front rest)) (begun_begins m s.begun);
  longest = λ k le begins. elim (cases_lt (length front) k) [
    | inl lt ↦
        let (after, n, sp) = begins in
        let k-is : k ≡ length front + suc (k - (length front + 1)) = omega arith in
        absurd (no_longer m front rest (k - (length front + 1)) after n s.goes s.is_stuck (omega (arith, length-append front rest))
        (subst (λ (i : ℕ). Spells n (take i (front ++ rest) ++ after)) k-is sp))
    | inr ge ↦ ge
  ];
}

-- A fault's place is that of the longest front that begins some numeral.
pub fault_is_longest : (field rest : List ℕ) → read_on nothing field ≡ Err rest → IsLongestBegin field (length field - length rest)
fault_is_longest field rest e =
    let (m, front, s) = fault_stops field nothing rest nothing_begun e in
    let at : length front ≡ length field - length rest = omega (arith, ap (λ (t : List ℕ). length t) s.split, length-append front rest) in
    subst (λ (i : ℕ). IsLongestBegin field i) at
    (subst (λ (t : List ℕ). IsLongestBegin t (length front)) (sym s.split)
    (split_longest front rest m (record { split = refl; begun = s.begun; bytes = s.bytes; goes = s.goes; is_stuck = s.is_stuck })))

-- There is one such place.
pub one_longest : (field : List ℕ) (a b : ℕ) → IsLongestBegin field a → IsLongestBegin field b → a ≡ b
one_longest field a b p q =
    let up : a ≤ b = q.longest a p.within p.begins in
    let down : b ≤ a = p.longest b q.within q.begins in
    omega arith

pub fault_is_within : (field rest : List ℕ) → read_on nothing field ≡ Err rest → length rest ≤ length field
fault_is_within field rest e =
    let (m, front, s) = fault_stops field nothing rest nothing_begun e in
    omega (arith, ap (λ (t : List ℕ). length t) s.split, length-append front rest)
