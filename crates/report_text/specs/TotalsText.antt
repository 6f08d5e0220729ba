-- The text of a study's totals, line by line. 10 is the line feed, 43 is `+`, 63 is `?`.
use Rattle.std.specs.Prelude.{ℕ, ◌==◌, ◌||◌, nat_lt, List, [], ◌∷◌, ◌++◌, length, map, filter, codes, Option, None, Some, slice_index_or, if◌then◌else◌}
use Rattle.std.specs.List.{range_with_len, flat_map, join_by}
use Rattle.zone_network.specs.Sums.{inside}
use Rattle.decimal_text.specs.DecimalText.{whole_text, fixed_text}
use Rattle.sample_totals.specs.declared.cut_rows.CutRow.{CutRow}
use Rattle.sample_totals.specs.declared.estimates.Sums.{Sums}
use Rattle.sample_totals.specs.Estimates.{mean_of, error_of}
use Rattle.sample_totals.specs.Totals.{Sheet, zone_sums}

-- a byte of a name as it is written: `?` in place of a control byte
abbrev pub shown_byte : ℕ → ℕ
shown_byte byte = if nat_lt byte 32 || (byte == 127) then 63 else byte

-- a name as it is written
abbrev pub name_text : List ℕ → List ℕ
name_text name = map shown_byte name

-- the error in thousandths with three places, or a dash where there is none
abbrev pub error_text : Option ℕ → List ℕ
error_text None = codes "-"
error_text (Some error) = fixed_text error 3

-- the rest of a line: the sum over the samples, their mean and the standard error of the mean
unfoldable pub sums_text : Sums → ℕ → List ℕ
sums_text sums samples =
    codes " sum " ++ whole_text sums.total
    ++ codes " mean " ++ fixed_text (mean_of sums samples) 3
    ++ codes " error " ++ error_text (error_of sums samples) ++ 10 ∷ []

-- the line of a zone
unfoldable pub zone_line : List (List ℕ) → Sheet → ℕ → List ℕ
zone_line names sheet zone =
    codes "zone " ++ name_text (slice_index_or names zone []) ++ sums_text (zone_sums sheet zone) sheet.samples

-- those of the first zones that a mask holds, in the zones' order
unfoldable pub zones_in : ℕ → ℕ → List ℕ
zones_in mask zones = filter (inside mask) (range_with_len 0 zones)

-- a set of zones: their names, joined by `+`
unfoldable pub zones_text : List (List ℕ) → List ℕ → List ℕ
zones_text names zones = join_by (λ zone. name_text (slice_index_or names zone [])) (43 ∷ []) zones

-- the line of a cut
unfoldable pub cut_line : List (List ℕ) → CutRow → List ℕ
cut_line names row =
    codes "cut " ++ zones_text names (zones_in row.mask (length names))
    ++ codes " hours " ++ whole_text row.hours ++ codes " unserved " ++ whole_text row.unserved ++ 10 ∷ []

-- the lines of the sums, where a sample is held
unfoldable pub sum_lines : List (List ℕ) → Sheet → List ℕ
sum_lines names sheet =
    codes "hours" ++ sums_text sheet.hours sheet.samples
    ++ codes "days" ++ sums_text sheet.days sheet.samples
    ++ codes "events" ++ sums_text sheet.events sheet.samples
    ++ codes "unserved" ++ sums_text sheet.unserved sheet.samples
    ++ flat_map (zone_line names sheet) (range_with_len 0 (length names))
    ++ flat_map (cut_line names) sheet.cuts

-- the text of totals over the zones of these names
unfoldable pub totals_text : List (List ℕ) → Sheet → List ℕ
totals_text names sheet =
    codes "samples " ++ whole_text sheet.samples ++ 10 ∷ []
    ++ (if sheet.samples == 0 then [] else sum_lines names sheet)
