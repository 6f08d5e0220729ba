-- A table's bytes as records: those that `csv` gives, each field without the spaces at its ends.
use Rattle.std.specs.Prelude.{ℕ, ◌+◌, ◌==◌, ◌&&◌, List, [], ◌∷◌, take, map, length, nat_le, slice_index, Bool, if◌then◌else◌}
use Rattle.csv.specs.Reading.{default_config, records, strip_bom}

-- the fields of a record, and the records of a table
abbrev pub Row : Type 0
Row = List (List ℕ)

abbrev pub Rows : Type 0
Rows = List Row

-- the record that was read last, and the records that are left
pub record RecordsLeft : Type 0 where
  pub row : Row
  pub rest : Rows

-- the bytes begin with a byte order mark
abbrev pub has_mark : List ℕ → Bool
has_mark bytes =
    nat_le 3 (length bytes) && (slice_index bytes 0 == 239) && (slice_index bytes 1 == 187)
    && (slice_index bytes 2 == 191)

-- a field without the spaces (32) in front
unfoldable pub without_front : List ℕ → List ℕ
without_front [] = []
without_front (b ∷ bs) = if b == 32 then without_front bs else b ∷ bs

-- how many bytes stand before the spaces at the end
unfoldable pub spaces_at : List ℕ → ℕ
spaces_at [] = 0
spaces_at (b ∷ bs) = if (spaces_at bs == 0) && (b == 32) then 0 else spaces_at bs + 1

-- a field without the spaces at its end
abbrev pub without_end : List ℕ → List ℕ
without_end field = take (spaces_at field) field

-- a field without the spaces at its ends
abbrev pub without_spaces : List ℕ → List ℕ
without_spaces field = without_end (without_front field)

-- The records of a table. One byte order mark in front is dropped, and `csv` drops one at the start of what
-- it reads. Its delimiter, quotes and line ends are the usual ones, records may differ in length, and none is
-- taken for a header.
abbrev pub records_of : List ℕ → Rows
records_of bytes = map (map without_spaces) (records default_config (strip_bom (strip_bom bytes)))
