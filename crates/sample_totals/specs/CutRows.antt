-- Rows by cut: for each set of zones that was the cut of an hour, how many hours, and what they left unserved.
use Rattle.std.specs.Prelude.{◌≡◌, ℕ, ◌+◌, ◌-◌, ◌^◌, ◌<◌, ◌≤◌, ◌==◌, List, [], ◌∷◌, map, filter, sum_by, nat_lt, if◌then◌else◌}
use Rattle.std.specs.List.{range_with_len}
use Rattle.sample_totals.specs.declared.cut_rows.CutRow.{CutRow}

-- the masks of the sets of zones that aren't empty, ascending
abbrev pub masks : ℕ → List ℕ
masks zones = range_with_len 1 (2 ^ zones - 1)

-- a row for each of these masks that has an hour, in their order
unfoldable pub rows_of : (ℕ → ℕ) → (ℕ → ℕ) → List ℕ → List CutRow
rows_of hours unserved ms =
    map (λ m. record { mask = m; hours = hours m; unserved = unserved m }) (filter (λ m. nat_lt 0 (hours m)) ms)

-- the hours that rows give to a mask
unfoldable pub hours_at : List CutRow → ℕ → ℕ
hours_at rows m = sum_by (λ row. if row.mask == m then row.hours else 0) rows

-- the unserved energy that rows give to a mask, in MWh
unfoldable pub cut_unserved : List CutRow → ℕ → ℕ
cut_unserved rows m = sum_by (λ row. if row.mask == m then row.unserved else 0) rows

-- the rows have hours, and their masks are from `low` on, below `end`, and ascend
abbrev pub AreRows : ℕ → ℕ → List CutRow → Type 0
AreRows low end [] = Unit {0}
AreRows low end (row ∷ rows) =
    (low ≤ row.mask) × (row.mask < end) × (0 < row.hours) × AreRows (row.mask + 1) end rows

-- the row that an hour gives: one of its cut, none where there is no cut
abbrev pub hour_rows : ℕ → ℕ → List CutRow
hour_rows cut unserved = if cut == 0 then [] else record { mask = cut; hours = 1; unserved = unserved } ∷ []

-- a row without hours, which stands past the end
abbrev pub no_row : CutRow
no_row = record { mask = 0; hours = 0; unserved = 0 }

-- rows have gained the hours and the energy of more rows, mask by mask, and are in order where both were
pub record AddsRows (old more new : List CutRow) : Type 0 where
  pub hours : (m : ℕ) → hours_at new m ≡ hours_at old m + hours_at more m
  pub unserved : (m : ℕ) → cut_unserved new m ≡ cut_unserved old m + cut_unserved more m
  pub ascending : (low end : ℕ) → AreRows low end old → AreRows low end more → AreRows low end new
