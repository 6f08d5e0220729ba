use Rattle.std.proofs.Common.{◌≡◌, ℕ, ◌+◌, ◌*◌, ◌<◌, ◌≤◌, List, [], ◌∷◌, ◌++◌, length, get_or, take, drop, map, refl, ap, sym, ◌∙◌, arith}
use Rattle.std.proofs.Math.Nat.{mul-le-mul_right}
use Rattle.std.specs.List.{range_with_len}
use Rattle.std.proofs.lemmas.List.{length-drop, length-take-le, get_or-take, get_or-drop, take_more, same_lists}
use Rattle.std.proofs.lemmas.List.FromFn.{length-map-range_with_len, get_or-map-range_with_len, map-range_with_len_more}
use Rattle.system_model.specs.Parts.{row_of}
use Rattle.system_model.proofs.HourLists.{row_of-before, row_of-last}
use Rattle.system_tables.specs.AmountRows.{rows_of}

pub rows_of_none : (width : ℕ) (amounts : List ℕ) → rows_of width 0 amounts ≡ []
unfolding rows_of
rows_of_none width amounts = refl

pub length-rows_of : (width count : ℕ) (amounts : List ℕ) → length (rows_of width count amounts) ≡ count
unfolding rows_of
length-rows_of width count amounts = length-map-range_with_len (row_of width amounts) 0 count

pub get_or-rows_of : (width count : ℕ) (amounts : List ℕ) (row : ℕ) (d : List ℕ)
    → row < count
    → get_or (rows_of width count amounts) row d ≡ row_of width amounts row
unfolding rows_of
get_or-rows_of width count amounts row d below =
    get_or-map-range_with_len (row_of width amounts) 0 count row row d below (omega arith)

pub rows_of-push : (width count : ℕ) (amounts more : List ℕ)
    → length amounts ≡ count * width
    → length more ≡ width
    → rows_of width (count + 1) (amounts ++ more) ≡ rows_of width count amounts ++ more ∷ []
unfolding rows_of
rows_of-push width count amounts more size wide =
    let before : ℕ → List ℕ = row_of width amounts in
    let after : ℕ → List ℕ = row_of width (amounts ++ more) in
    let one_more : map after (range_with_len 0 (count + 1)) ≡ map after (range_with_len 0 count) ++ after count ∷ [] =
    map-range_with_len_more after 0 count count (omega arith) in
    let kept : map after (range_with_len 0 count) ≡ map before (range_with_len 0 count) =
    same_lists _ _ (length-map-range_with_len after 0 count ∙ sym (length-map-range_with_len before 0 count))
    (λ k d h.
    let below : k < count = omega (arith, length-map-range_with_len after 0 count) in
    get_or-map-range_with_len after 0 count k k d below (omega arith)
    ∙ row_of-before width count amounts more k size below
    ∙ sym (get_or-map-range_with_len before 0 count k k d below (omega arith))) in
    one_more ∙ ap (λ (rows : List (List ℕ)). rows ++ after count ∷ []) kept
    ∙ ap (λ (row : List ℕ). map before (range_with_len 0 count) ++ row ∷ [])
    (row_of-last width count amounts more size wide)

-- a row's amounts end within the list
pub row_ends : (width count : ℕ) (amounts : List ℕ) (row : ℕ)
    → length amounts ≡ count * width
    → row < count
    → row * width + width ≤ length amounts
row_ends width count amounts row size below =
    let room : (row + 1) * width ≤ count * width = mul-le-mul_right width (omega arith) in
    omega arith

pub length-row_of : (width count : ℕ) (amounts : List ℕ) (row : ℕ)
    → length amounts ≡ count * width
    → row < count
    → length (row_of width amounts row) ≡ width
length-row_of width count amounts row size below =
    let ends : row * width + width ≤ length amounts = row_ends width count amounts row size below in
    length-take-le width (drop (row * width) amounts) (omega (arith, length-drop (row * width) amounts))

-- a row that is held, by the list in which the rows stand
pub record IsHeld (width count : ℕ) (amounts : List ℕ) (rows : List (List ℕ)) (row : ℕ) : Type 0 where
  pub below : row < count
  pub ends : row * width + width ≤ length amounts
  pub is : get_or rows row [] ≡ row_of width amounts row

pub held_row : (width count : ℕ) (amounts : List ℕ) (rows : List (List ℕ)) (row : ℕ)
    → rows_of width count amounts ≡ rows
    → length amounts ≡ count * width
    → row < length rows
    → IsHeld width count amounts rows row
held_row width count amounts rows row held size among =
    let counted : count ≡ length rows = sym (length-rows_of width count amounts) ∙ ap length held in
    let below : row < count = omega arith in
    record {
      below = below;
      ends = row_ends width count amounts row size below;
      is = sym (ap (λ (l : List (List ℕ)). get_or l row []) held) ∙ get_or-rows_of width count amounts row [] below;
    }

-- one more amount of a row was copied
pub copied-more : (width count : ℕ) (amounts : List ℕ) (row place amount : ℕ) (d : ℕ)
    → length amounts ≡ count * width
    → row < count
    → place < width
    → get_or amounts (row * width + place) d ≡ amount
    → take (place + 1) (row_of width amounts row) ≡ take place (row_of width amounts row) ++ amount ∷ []
copied-more width count amounts row place amount d size below among is =
    let wide : length (row_of width amounts row) ≡ width = length-row_of width count amounts row size below in
    take_more (row_of width amounts row) place d (omega arith)
    ∙ ap (λ (x : ℕ). take place (row_of width amounts row) ++ x ∷ [])
    (get_or-take width (drop (row * width) amounts) place d among ∙ get_or-drop (row * width) amounts place d ∙ is)
