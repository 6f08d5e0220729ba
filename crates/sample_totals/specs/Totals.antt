-- Sums over samples: each figure's plain sum and the sum of its squares, and cut rows added by mask.
use Rattle.std.specs.Prelude.{◌≡◌, ℕ, ◌+◌, ◌*◌, ◌^◌, ◌<◌, ◌≤◌, List, length, map, sum_by, slice_index_or}
use Rattle.std.specs.List.{range_with_len}
use Rattle.ra_base.specs.declared.limits.TheConstants.{MOST_SAMPLES, MOST_HOURS}
use Rattle.sample_totals.specs.declared.results.TheConstants.{MOST_UNSERVED}
use Rattle.sample_totals.specs.declared.outcomes.HourOutcome.{HourOutcome}
use Rattle.sample_totals.specs.declared.cut_rows.CutRow.{CutRow}
use Rattle.sample_totals.specs.declared.estimates.Sums.{Sums}
use Rattle.sample_totals.specs.declared.totals.Part.{Part}
use Rattle.sample_totals.specs.declared.totals.Part.TheVariants.{Hours, Days, Events, Unserved}
use Rattle.sample_totals.specs.CutRows.{masks, rows_of, hours_at, cut_unserved, AreRows, AddsRows}
use Rattle.sample_totals.specs.Estimates.{AreSums, no_sums, joined_sums}
use Rattle.sample_totals.specs.Results.{short_hours, short_days, short_events, unserved_energy, zone_energy, cut_hours, cut_energy}

-- what a contract sees of totals
pub record Sheet : Type 0 where
  pub samples : ℕ
  pub hours : Sums
  pub days : Sums
  pub events : Sums
  pub unserved : Sums
  pub zones : List Sums
  pub cuts : List CutRow

-- the sum of a figure over runs, and the sum of its squares
unfoldable pub sums_of : (List HourOutcome → ℕ) → List (List HourOutcome) → Sums
sums_of figure runs = record {
  total = sum_by figure runs;
  squares = sum_by (λ run. figure run * figure run) runs;
}

-- the totals of runs in so many zones
unfoldable pub totals_of : ℕ → List (List HourOutcome) → Sheet
totals_of zones runs = record {
  samples = length runs;
  hours = sums_of short_hours runs;
  days = sums_of short_days runs;
  events = sums_of short_events runs;
  unserved = sums_of unserved_energy runs;
  zones = map (λ zone. sums_of (λ run. zone_energy run zone) runs) (range_with_len 0 zones);
  cuts = rows_of (λ m. sum_by (λ run. cut_hours run m) runs) (λ m. sum_by (λ run. cut_energy run m) runs) (masks zones);
}

-- the sums of a part
abbrev pub part_of : Sheet → Part → Sums
part_of sheet Hours = sheet.hours
part_of sheet Days = sheet.days
part_of sheet Events = sheet.events
part_of sheet Unserved = sheet.unserved

-- the sums of a zone
abbrev pub zone_sums : Sheet → ℕ → Sums
zone_sums sheet zone = slice_index_or sheet.zones zone no_sums

-- the ranges of the parts of totals
pub record IsSheet (sheet : Sheet) : Type 0 where
  pub samples : sheet.samples ≤ MOST_SAMPLES
  pub hours : AreSums sheet.hours sheet.samples
  pub days : AreSums sheet.days sheet.samples
  pub events : AreSums sheet.events sheet.samples
  pub unserved : AreSums sheet.unserved sheet.samples
  pub few_zones : length sheet.zones < 2 ^ 8
  pub zones : (z : ℕ) → AreSums (slice_index_or sheet.zones z no_sums) sheet.samples
  pub rows : AreRows 1 (2 ^ length sheet.zones) sheet.cuts
  pub row_hours : (m : ℕ) → hours_at sheet.cuts m ≤ sheet.samples * MOST_HOURS
  pub row_unserved : (m : ℕ) → cut_unserved sheet.cuts m ≤ sheet.samples * MOST_UNSERVED

-- totals have gained other totals: the samples, each part and zone field by field, and the cut rows by mask
pub record AddsTotals (old more new : Sheet) : Type 0 where
  pub samples : new.samples ≡ old.samples + more.samples
  pub hours : new.hours ≡ joined_sums old.hours more.hours
  pub days : new.days ≡ joined_sums old.days more.days
  pub events : new.events ≡ joined_sums old.events more.events
  pub unserved : new.unserved ≡ joined_sums old.unserved more.unserved
  pub zone_count : length new.zones ≡ length old.zones
  pub zones : (z : ℕ) → z < length old.zones → zone_sums new z ≡ joined_sums (zone_sums old z) (zone_sums more z)
  pub cuts : AddsRows old.cuts more.cuts new.cuts
