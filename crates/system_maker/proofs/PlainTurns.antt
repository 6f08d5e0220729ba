-- Items that are read in turn, each as one more of what was there.
use Rattle.std.proofs.Common.{◌≡◌, ℕ, suc, ◌+◌, ◌<◌, List, [], ◌∷◌, length, map, get_or, Result, Ok, refl, sym, ap, ◌∙◌, arith}
use Rattle.std.specs.List.{range_with_len}
use Rattle.std.proofs.lemmas.List.FromFn.{length-map-range_with_len, get_or-map-range_with_len}
use Rattle.system_tables.specs.declared.faults.TableFault.{TableFault}
use Rattle.system_tables.specs.Faults.{in_turn}
use Rattle.system_tables.proofs.TurnLaws.{in_turn-ok, in_turn-end}

turns : {A B : Type 0} (one : A → B → Result A TableFault) (state : ℕ → A) (items : List B) (d : B) (at : ℕ)
    → ((k : ℕ) → k < length items → one (state (at + k)) (get_or items k d) ≡ Ok (state (at + k + 1)))
    → in_turn one (state at) items ≡ Ok (state (at + length items))
turns one state [] d at each =
    let same : at ≡ at + 0 = omega arith in
    in_turn-end one (state at) [] refl ∙ ap (λ (n : ℕ). Ok (state n)) same
turns one state (item ∷ items) d at each =
    let none : at + 0 ≡ at = omega arith in
    let first : one (state at) item ≡ Ok (state (at + 1)) =
    ap (λ (n : ℕ). one (state n) item) (sym none) ∙ each 0 (omega arith) ∙ ap (λ (n : ℕ). Ok (state (n + 1))) none in
    let last : at + 1 + length items ≡ at + suc (length items) = omega arith in
    sym (in_turn-ok one (state at) (state (at + 1)) (item ∷ items) item items refl first)
    ∙ turns one state items d (at + 1) (λ k below.
    let before : at + suc k ≡ at + 1 + k = omega arith in
    ap (λ (n : ℕ). one (state n) (get_or items k d)) (sym before) ∙ each (suc k) (omega arith) ∙ ap (λ (n : ℕ). Ok (state (n + 1))) before)
    ∙ ap (λ (n : ℕ). Ok (state n)) last

-- where each item is read as one more, all are read
pub turns_read : {A B : Type 0} (one : A → B → Result A TableFault) (state : ℕ → A) (items : List B) (d : B)
    → ((k : ℕ) → k < length items → one (state k) (get_or items k d) ≡ Ok (state (k + 1)))
    → in_turn one (state 0) items ≡ Ok (state (length items))
turns_read one state items d each =
    turns one state items d 0 (λ k below.
    let same : k ≡ 0 + k = omega arith in
    ap (λ (n : ℕ). one (state n) (get_or items k d)) (sym same) ∙ each k below ∙ ap (λ (n : ℕ). Ok (state (n + 1))) same)
    ∙ ap (λ (n : ℕ). Ok (state n)) (zero_more (length items))
  where
    zero_more : (n : ℕ) → 0 + n ≡ n
    zero_more n = omega arith

-- the same of a row for each place
pub rows_in_turn : {A B : Type 0} (one : A → B → Result A TableFault) (state : ℕ → A) (row : ℕ → B) (n : ℕ) (d : B)
    → ((k : ℕ) → k < n → one (state k) (row k) ≡ Ok (state (k + 1)))
    → in_turn one (state 0) (map row (range_with_len 0 n)) ≡ Ok (state n)
rows_in_turn one state row n d each =
    let size : length (map row (range_with_len 0 n)) ≡ n = length-map-range_with_len row 0 n in
    turns_read one state (map row (range_with_len 0 n)) d (λ k below.
    let among : k < n = omega (arith, size) in
    ap (one (state k)) (get_or-map-range_with_len row 0 n k k d among (zero_more k)) ∙ each k among)
    ∙ ap (λ (m : ℕ). Ok (state m)) size
  where
    zero_more : (n : ℕ) → 0 + n ≡ n
    zero_more n = omega arith
