-- The plain tables of load and of variable generation are read as the hours.
use Rattle.std.proofs.Common.{◌≡◌, ℕ, zero, suc, ◌+◌, ◌<◌, ◌≤◌, Bool, true, false, List, [], ◌∷◌, ◌++◌, length, take, map, get_or, codes, sum, Option, Some, None, Ok, refl, sym, ap, ◌∙◌, arith, add-one}
use Rattle.std.specs.List.{range_with_len}
use Rattle.std.specs.Prelude.{All}
use Rattle.std.proofs.lemmas.Bool.{and_from, ne_eqb, eq-eqb, le-ltb}
use Rattle.std.proofs.lemmas.Fmt.{decimal_nonempty}
use Rattle.std.proofs.lemmas.List.{length-take-le, length-map, take_more, take_all, get_or-map}
use Rattle.std.proofs.lemmas.List.Elements.{All-get_or, All-head, All-tail, All-from_get_or}
use Rattle.std.proofs.lemmas.List.FromFn.{length-map-range_with_len, map-range_with_len_more, fill_by_all}
use Rattle.std.proofs.lemmas.List.Sums.{get_or-le-sum_by}
use Rattle.csv.specs.Reading.{strip_bom}
use Rattle.decimal_text.specs.DecimalText.{whole_text}
use Rattle.ra_base.specs.declared.limits.TheConstants.{MOST_HOURS, MOST_POOLED_MW}
use Rattle.ra_base.specs.declared.table.TableName.{TableName}
use Rattle.ra_base.specs.declared.table.TableName.TheVariants.{Load, Variable}
use Rattle.system_model.specs.System.{SystemParts, HourAmounts, amounts_of, IsHourAmong, hour_count, hour_at, no_hour}
use Rattle.system_tables.specs.declared.faults.Column.{Column}
use Rattle.system_tables.specs.declared.faults.Column.TheVariants.{Fixed, Zone}
use Rattle.system_tables.specs.Columns.{found_column}
use Rattle.system_tables.specs.Faults.{in_turn, table_in, below}
use Rattle.system_tables.specs.Hours.{ZoneColumns, HoursAbove, hours_above, amount_column_in, next_column_in, hour_order_in, amount_in, next_amount_in, row_within_in, hour_in, hour_rows_in, amounts_in, some_hour_in, all_hours_in, variables_in, with_hours}
use Rattle.system_tables.specs.Names.{Names}
use Rattle.system_tables.specs.Records.{Row, Rows}
use Rattle.system_tables.proofs.HourLaws.{next_amount-ok}
use Rattle.system_maker.specs.declared.hour_tables.Series.{Series}
use Rattle.system_maker.specs.declared.hour_tables.Series.TheVariants as series
use Rattle.system_maker.specs.PlainTables.{series_amounts, hour_row, hour_header, hour_table}
use Rattle.system_maker.proofs.PlainRecords.{IsPlainRow, is_plain, are_plain, table_read}
use Rattle.system_maker.proofs.PlainFields.{whole_plain, shape_read, whole_read, value_read}
use Rattle.system_maker.proofs.PlainNames.{AreApart, AreNoHours, zone_column_read, zone_column_found, hour_column_read}
use Rattle.system_maker.proofs.PlainSystems.{IsPlainSystem, to_storages}
use Rattle.system_maker.proofs.PlainTurns.{turns_read, rows_in_turn}

-- ---- the columns

zone_columns : ℕ → ZoneColumns
zone_columns n = map (λ (zone : ℕ). Some (found_column (Zone zone) (zone + 1))) (range_with_len 0 n)

columns_none : zone_columns 0 ≡ []
unfolding zone_columns
columns_none = refl

columns_counted : (n : ℕ) → length (zone_columns n) ≡ n
unfolding zone_columns
columns_counted n = length-map-range_with_len (λ (zone : ℕ). Some (found_column (Zone zone) (zone + 1))) 0 n

columns_more : (n : ℕ) → zone_columns (n + 1) ≡ zone_columns n ++ Some (found_column (Zone n) (n + 1)) ∷ []
unfolding zone_columns
columns_more n = map-range_with_len_more (λ (zone : ℕ). Some (found_column (Zone zone) (zone + 1))) 0 n n (omega arith)

column_read : (required : Bool) (table : TableName) (column : Column) (zones : Names) (k : ℕ) → AreApart zones → AreNoHours zones → k < length zones
    → amount_column_in required table column (codes "hour" ∷ zones) (get_or zones k []) ≡ Ok (Some (found_column column (k + 1)))
unfolding amount_column_in
column_read true table column zones k apart others lt = rw (zone_column_read table column zones k apart others lt) refl
column_read false table column zones k apart others lt = zone_column_found table column zones k apart others lt

next_read : (required : Bool) (table : TableName) (zones : Names) (k : ℕ) → AreApart zones → AreNoHours zones → k < length zones
    → next_column_in required table (codes "hour" ∷ zones) (zone_columns k) (get_or zones k []) ≡ Ok (zone_columns (k + 1))
unfolding next_column_in
next_read required table zones k apart others lt =
    rw (columns_counted k, column_read required table (Zone k) zones k apart others lt)
    (ap (λ (columns : ZoneColumns). Ok columns) (sym (columns_more k)))

columns_read : (required : Bool) (table : TableName) (zones : Names) → AreApart zones → AreNoHours zones
    → in_turn (next_column_in required table (codes "hour" ∷ zones)) [] zones ≡ Ok (zone_columns (length zones))
columns_read required table zones apart others =
    ap (λ (columns : ZoneColumns). in_turn (next_column_in required table (codes "hour" ∷ zones)) columns zones) (sym columns_none)
    ∙ turns_read (next_column_in required table (codes "hour" ∷ zones)) zone_columns zones [] (λ k lt. next_read required table zones k apart others lt)

-- ---- the amounts of a row

abbrev row_of : ℕ → List ℕ → Row
row_of hour amounts = whole_text hour ∷ map whole_text amounts

-- amounts within the limit together
abbrev AreWithin : List ℕ → Type 0
AreWithin amounts = sum amounts ≤ MOST_POOLED_MW

within_at : (amounts : List ℕ) (k : ℕ) → AreWithin amounts → k < length amounts → get_or amounts k 0 ≤ MOST_POOLED_MW
within_at amounts k all lt = omega (arith, get_or-le-sum_by (λ (mw : ℕ). mw) amounts k 0 lt)

zone_field : (hour : ℕ) (amounts : List ℕ) (k : ℕ) → k < length amounts
    → get_or (row_of hour amounts) (k + 1) [] ≡ whole_text (get_or amounts k 0)
zone_field hour amounts k lt = rw add-one (get_or-map whole_text amounts k 0 [] lt)

amount_read : (table : TableName) (count hour : ℕ) (amounts : List ℕ) (k : ℕ) → AreWithin amounts → k < length amounts
    → amount_in (below table count) (row_of hour amounts) (Some (found_column (Zone k) (k + 1))) ≡ Ok (get_or amounts k 0)
unfolding amount_in
amount_read table count hour amounts k all lt =
    let most : get_or amounts k 0 ≤ MOST_POOLED_MW = within_at amounts k all lt in
    whole_read table count (Zone k) (k + 1) 0 MOST_POOLED_MW (get_or amounts k 0) (row_of hour amounts)
    (zone_field hour amounts k lt) (omega arith) most (omega arith)

amounts_read : (table : TableName) (count hour : ℕ) (amounts : List ℕ) → AreWithin amounts
    → in_turn (next_amount_in (below table count) (row_of hour amounts)) [] (zone_columns (length amounts)) ≡ Ok amounts
unfolding zone_columns
amounts_read table count hour amounts all =
    rows_in_turn (next_amount_in (below table count) (row_of hour amounts)) (λ k. take k amounts)
    (λ (zone : ℕ). Some (found_column (Zone zone) (zone + 1))) (length amounts) None (λ k lt.
    next_amount-ok (below table count) (row_of hour amounts) (take k amounts) (Some (found_column (Zone k) (k + 1))) (get_or amounts k 0)
    (amount_read table count hour amounts k all lt)
    ∙ ap (λ (mws : List ℕ). Ok mws) (sym (take_more amounts k 0 lt)))
    ∙ ap (λ (mws : List ℕ). Ok mws) (take_all (length amounts) amounts (omega arith))

-- ---- the rows

-- the number of the next hour, where one was read
abbrev wanted : ℕ → Option ℕ
wanted zero = None
wanted (suc hour) = Some (suc hour)

wanted_next : (hour : ℕ) → Some (hour + 1) ≡ wanted (hour + 1)
wanted_next hour = rw add-one refl

abbrev hours_to : List (List ℕ) → ℕ → HoursAbove
hours_to all hour = hours_above (wanted hour) (take hour all)

order_read : (table : TableName) (count : ℕ) (column : Column) (hour : ℕ) → hour_order_in (below table count) column (wanted hour) hour ≡ Ok tt
unfolding hour_order_in
order_read table count column zero = refl
order_read table count column (suc hour) = rw (eq-eqb (suc hour) (suc hour) refl) refl

row_within : (table : TableName) (count total : ℕ) → total ≤ MOST_POOLED_MW → row_within_in (below table count) total ≡ Ok tt
unfolding row_within_in
row_within table count total most = rw (le-ltb MOST_POOLED_MW total most) refl

step : (table : TableName) (limit n : ℕ) (all : List (List ℕ)) (hour : ℕ)
    → hour < limit
    → limit ≤ MOST_HOURS
    → hour < length all
    → length (get_or all hour []) ≡ n
    → AreWithin (get_or all hour [])
    → hour_in table limit (found_column (Fixed 0) 0) (zone_columns n) (suc n) (hours_to all hour) (row_of hour (get_or all hour []))
    ≡ Ok (hours_to all (hour + 1))
unfolding hour_in
step table limit n all hour room few lt zones within =
    let size : length (take hour all) ≡ hour = length-take-le hour all (omega arith) in
    let width : length (row_of hour (get_or all hour [])) ≡ suc n = omega (arith, length-map (get_or all hour []) whole_text) in
    rw (
      shape_read table (length (take hour all)) limit (length (take hour all)) (suc n) (row_of hour (get_or all hour [])) (omega arith) width,
      value_read table (length (take hour all)) (Fixed 0) 0 hour (row_of hour (get_or all hour [])) refl (omega arith),
      order_read table (length (take hour all)) (Fixed 0) hour,
      ← zones,
      amounts_read table (length (take hour all)) hour (get_or all hour []) within,
      row_within table (length (take hour all)) (sum (get_or all hour [])) within,
    )
    (λ i. Ok (hours_above (wanted_next hour i) (sym (take_more all hour [] lt) i)))

-- ---- a table

maps_plain : (amounts : List ℕ) → All (λ mw. mw ≤ MOST_POOLED_MW) amounts → are_plain (map whole_text amounts) ≡ true
maps_plain [] all = refl
maps_plain (mw ∷ mws) all =
    let most : mw ≤ MOST_POOLED_MW = All-head (λ k. k ≤ MOST_POOLED_MW) mw mws all in
    and_from (is_plain (whole_text mw)) (are_plain (map whole_text mws)) (whole_plain mw (omega arith))
    (maps_plain mws (All-tail (λ k. k ≤ MOST_POOLED_MW) mw mws all))

names_plain : (names : Names) → ((k : ℕ) → k < length names → is_plain (get_or names k []) ≡ true) → are_plain names ≡ true
names_plain [] each = refl
names_plain (name ∷ names) each =
    and_from (is_plain name) (are_plain names) (each 0 (omega arith)) (names_plain names (λ k lt. each (suc k) (omega arith)))

-- what a series has in each hour
abbrev amounts_told : Series → SystemParts → List (List ℕ)
amounts_told which s = map (series_amounts which) s.hours

hour_told : (which : Series) (s : SystemParts) (hour : ℕ) → hour < hour_count s
    → get_or (amounts_told which s) hour [] ≡ series_amounts which (hour_at s hour)
hour_told which s hour lt = get_or-map (series_amounts which) s.hours hour no_hour [] lt

-- the amounts of an hour fit the zones
record IsTold (zones : ℕ) (amounts : List ℕ) : Type 0 where
  size : length amounts ≡ zones
  within : AreWithin amounts

told_fits : (which : Series) (zones : ℕ) (hour : HourAmounts) → IsHourAmong zones hour → IsTold zones (series_amounts which hour)
told_fits series.Load zones hour among = record { size = among.load_by_zone; within = among.load }
told_fits series.Variable zones hour among = record { size = among.variable_by_zone; within = among.variable }

fits : (which : Series) (s : SystemParts) → IsPlainSystem s → (hour : ℕ) → hour < hour_count s
    → IsTold (length s.zone_names) (series_amounts which (hour_at s hour))
fits which s p hour lt =
    told_fits which (length s.zone_names) (hour_at s hour)
    (All-get_or (IsHourAmong (length s.zone_names)) s.hours hour no_hour lt p.valid.within.hours.each)

plain_row : (which : Series) (s : SystemParts) → IsPlainSystem s → (hour : ℕ) → hour < hour_count s → IsPlainRow (hour_row which s hour)
unfolding hour_row
plain_row which s p hour lt =
    let few : hour_count s ≤ MOST_HOURS = p.valid.within.hours.most in
    let told = fits which s p hour lt in
    let amounts : List ℕ = series_amounts which (hour_at s hour) in
    record {
      plain = and_from (is_plain (whole_text hour)) (are_plain (map whole_text amounts)) (whole_plain hour (omega arith))
          (maps_plain amounts (All-from_get_or (λ (mw : ℕ). mw ≤ MOST_POOLED_MW) amounts 0 (λ k below_end. within_at amounts k told.within below_end)));
      some = decimal_nonempty hour (omega arith);
    }

row_step : (which : Series) (table : TableName) (limit : ℕ) (s : SystemParts) → IsPlainSystem s
    → hour_count s ≤ limit
    → limit ≤ MOST_HOURS
    → (hour : ℕ) → hour < hour_count s
    → hour_in table limit (found_column (Fixed 0) 0) (zone_columns (length s.zone_names)) (suc (length s.zone_names)) (hours_to (amounts_told which s) hour) (hour_row which s hour)
    ≡ Ok (hours_to (amounts_told which s) (hour + 1))
unfolding hour_row
row_step which table limit s p room few hour lt =
    let told : IsTold (length s.zone_names) (get_or (amounts_told which s) hour []) = rw (hour_told which s hour lt) (fits which s p hour lt) in
    let size : length (amounts_told which s) ≡ hour_count s = length-map s.hours (series_amounts which) in
    rw (← hour_told which s hour lt)
    (step table limit (length s.zone_names) (amounts_told which s) hour (omega arith) few (omega arith) told.size told.within)

all_told : (which : Series) (s : SystemParts) → hours_to (amounts_told which s) (hour_count s) ≡ hours_above (wanted (hour_count s)) (amounts_told which s)
all_told which s =
    let size : length (amounts_told which s) ≡ hour_count s = length-map s.hours (series_amounts which) in
    ap (hours_above (wanted (hour_count s))) (take_all (hour_count s) (amounts_told which s) (omega arith))

series_read : (which : Series) (required : Bool) (table : TableName) (limit : ℕ) (s : SystemParts) → IsPlainSystem s
    → hour_count s ≤ limit
    → limit ≤ MOST_HOURS
    → amounts_in required table limit s.zone_names (hour_table which s) ≡ Ok (hours_above (wanted (hour_count s)) (amounts_told which s))
unfolding hour_table hour_header hour_rows_in strip_bom
series_read which required table limit s p room few =
    ap (λ (rows : Rows). table_in table rows (hour_rows_in required table limit s.zone_names))
    (table_read (codes "hour") s.zone_names (hour_row which s) (hour_count s) (λ rest. refl)
    (record { plain = names_plain s.zone_names p.zones.plain; some = omega arith }) (plain_row which s p))
    ∙ rw (hour_column_read table (Fixed 0) s.zone_names p.no_hours, columns_read required table s.zone_names p.zones.apart p.no_hours)
    (rows_in_turn (hour_in table limit (found_column (Fixed 0) 0) (zone_columns (length s.zone_names)) (suc (length s.zone_names)))
    (hours_to (amounts_told which s)) (hour_row which s) (hour_count s) [] (row_step which table limit s p room few)
    ∙ ap (λ (above : HoursAbove). Ok above) (all_told which s))

-- ---- both tables

some_read : (hours : ℕ) → 0 < hours → some_hour_in hours ≡ Ok tt
unfolding some_hour_in
some_read hours some = rw (ne_eqb hours 0 (λ e. absurd (omega arith))) refl

all_read : (hours wanted_hours : ℕ) → wanted_hours ≤ hours → all_hours_in hours wanted_hours ≡ Ok tt
unfolding all_hours_in
all_read hours wanted_hours all = rw (le-ltb hours wanted_hours all) refl

hours_told : (s : SystemParts)
    → map (λ hour. amounts_of (get_or (amounts_told series.Load s) hour []) (get_or (amounts_told series.Variable s) hour [])) (range_with_len 0 (hour_count s))
    ≡ s.hours
hours_told s =
    sym (fill_by_all (λ hour. amounts_of (get_or (amounts_told series.Load s) hour []) (get_or (amounts_told series.Variable s) hour []))
    s.hours (hour_count s) no_hour refl (λ hour lt.
    λ i. amounts_of (sym (hour_told series.Load s hour lt) i) (sym (hour_told series.Variable s hour lt) i)))

variables_read : (s : SystemParts) → IsPlainSystem s
    → variables_in s.zone_names (hour_count s) (Some (hour_table series.Variable s)) ≡ Ok (amounts_told series.Variable s)
unfolding variables_in
variables_read s p =
    let size : length (amounts_told series.Variable s) ≡ hour_count s = length-map s.hours (series_amounts series.Variable) in
    rw (
      series_read series.Variable false Variable (hour_count s) s p (omega arith) p.valid.within.hours.most,
      all_read (length (amounts_told series.Variable s)) (hour_count s) (omega arith),
    ) refl

pub hours_read : (s : SystemParts) → IsPlainSystem s
    → with_hours (to_storages s) (hour_table series.Load s) (Some (hour_table series.Variable s)) ≡ Ok s
unfolding with_hours
hours_read s p =
    let size : length (amounts_told series.Load s) ≡ hour_count s = length-map s.hours (series_amounts series.Load) in
    let some : 0 < hour_count s = p.valid.hour in
    rw (
      series_read series.Load true Load MOST_HOURS s p p.valid.within.hours.most (omega arith),
      some_read (length (amounts_told series.Load s)) (omega arith),
      size,
      variables_read s p,
    )
    (λ i. Ok (record (to_storages s) { hours = hours_told s i }))
