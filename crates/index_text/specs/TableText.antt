-- The text of an outage table, line by line. 10 is the line feed.
use Rattle.std.specs.Prelude.{ℕ, ◌+◌, ◌==◌, ◌&&◌, List, [], ◌∷◌, ◌++◌, length, codes, if◌then◌else◌}
use Rattle.std.specs.List.{flat_map, range_with_len}
use Rattle.decimal_text.specs.DecimalText.{whole_text}
use Rattle.fixed_interval.specs.Rounding.{floor_div, ceil_div}
use Rattle.fixed_interval.specs.Places.{low_end_text, high_end_text}
use Rattle.outage_table.specs.declared.units.PooledUnit.{PooledUnit}
use Rattle.outage_table.specs.States.{total_capacity}
use Rattle.outage_table.specs.Grid.{grid}

-- both ends of an enclosure, in units of 2^-60, with their words
unfoldable pub ends_text : ℕ → ℕ → List ℕ
ends_text low high = codes "low " ++ low_end_text low ++ codes " high " ++ high_end_text high

-- the line of an outage of `x` MW or more
unfoldable pub outage_line : ℕ → ℕ → ℕ → List ℕ
outage_line x low high = codes "outage " ++ whole_text x ++ codes " " ++ ends_text low high ++ 10 ∷ []

-- that line, where the entry of the next MW is another one
abbrev pub outage_text : List PooledUnit → ℕ → List ℕ
outage_text units x =
    if (grid floor_div units x == grid floor_div units (x + 1)) && (grid ceil_div units x == grid ceil_div units (x + 1))
    then [] else outage_line x (grid floor_div units x) (grid ceil_div units x)

-- the text of the table of these units
unfoldable pub table_text : List PooledUnit → List ℕ
table_text units =
    codes "units " ++ whole_text (length units) ++ codes " total " ++ whole_text (total_capacity units) ++ 10 ∷ []
    ++ flat_map (outage_text units) (range_with_len 0 (total_capacity units + 1))
