-- The text of the indices of a pool, line by line. 10 is the line feed.
use Rattle.std.specs.Prelude.{ℕ, List, [], ◌∷◌, ◌++◌, length, codes, slice_index_or}
use Rattle.std.specs.List.{flat_map, range_with_len}
use Rattle.decimal_text.specs.DecimalText.{whole_text}
use Rattle.fixed_interval.specs.Rounding.{floor_div, ceil_div}
use Rattle.load_model.specs.Need.{need_of, no_net_hour, peak_of}
use Rattle.outage_table.specs.Grid.{unserved_grid}
use Rattle.analytic_index.specs.Pool.{Pool}
use Rattle.analytic_index.specs.Index.{needs_of, lolp_end, lole_end, eue_end}
use Rattle.index_text.specs.TableText.{ends_text}

-- what stands before the hours: how many there are, the peak, and the indices over all hours
unfoldable pub head_text : Pool → List ℕ
head_text pool =
    codes "hours " ++ whole_text (length pool.hours)
    ++ codes " peak " ++ whole_text (peak_of pool.hours).mw ++ codes " hour " ++ whole_text (peak_of pool.hours).hour
    ++ codes "\nlole " ++ ends_text (lole_end floor_div pool.units (needs_of pool.hours)) (lole_end ceil_div pool.units (needs_of pool.hours))
    ++ codes "\neue " ++ ends_text (eue_end floor_div pool.units (needs_of pool.hours)) (eue_end ceil_div pool.units (needs_of pool.hours))
    ++ 10 ∷ []

-- the line of an hour with this need
unfoldable pub hour_line : ℕ → ℕ → ℕ → ℕ → ℕ → ℕ → List ℕ
hour_line hour need lolp_low lolp_high unserved_low unserved_high =
    codes "hour " ++ whole_text hour ++ codes " need " ++ whole_text need
    ++ codes " lolp " ++ ends_text lolp_low lolp_high ++ codes " unserved " ++ ends_text unserved_low unserved_high
    ++ 10 ∷ []

-- that line for an hour of a pool
abbrev pub hour_text : Pool → ℕ → List ℕ
hour_text pool hour =
    let need = need_of (slice_index_or pool.hours hour no_net_hour) in
    hour_line hour need (lolp_end floor_div pool.units need) (lolp_end ceil_div pool.units need)
    (unserved_grid floor_div pool.units need) (unserved_grid ceil_div pool.units need)

-- the text of the indices of a pool
unfoldable pub index_text : Pool → List ℕ
index_text pool = head_text pool ++ flat_map (hour_text pool) (range_with_len 0 (length pool.hours))
