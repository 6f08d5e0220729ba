-- Rows of amounts in one list, one row behind another.
use Rattle.std.specs.Prelude.{ℕ, List, [], map}
use Rattle.std.specs.List.{range_with_len}
use Rattle.system_model.specs.Parts.{row_of}

-- how many amounts each row has, and the rows
pub record HeldRows : Type 0 where
  pub width : ℕ
  pub rows : List (List ℕ)

-- no rows
abbrev pub no_rows : ℕ → HeldRows
no_rows width = record { width = width; rows = [] }

-- so many rows of the list
unfoldable pub rows_of : ℕ → ℕ → List ℕ → List (List ℕ)
rows_of width count amounts = map (row_of width amounts) (range_with_len 0 count)
