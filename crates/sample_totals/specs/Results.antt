-- What the hours of a sample come to, each figure by counting.
use Rattle.std.specs.Prelude.{ℕ, zero, suc, ◌+◌, ◌*◌, ◌/◌, ◌^◌, ◌<◌, ◌≤◌, ◌==◌, ◌&&◌, Bool, false, not, nat_lt, List, [], length, map, sum, sum_by, count_by, slice_index, slice_index_or, Option, None, Some, if◌then◌else◌}
use Rattle.std.specs.List.{range_with_len, list_any}
use Rattle.ra_base.specs.declared.limits.TheConstants.{MOST_ZONES, MOST_HOURS, MOST_POOLED_MW}
use Rattle.sample_totals.specs.declared.outcomes.HourOutcome.{HourOutcome}
use Rattle.sample_totals.specs.declared.cut_rows.CutRow.{CutRow}
use Rattle.sample_totals.specs.CutRows.{masks, rows_of, hours_at, cut_unserved, AreRows}

-- what stands past the last hour
abbrev pub no_outcome : HourOutcome
no_outcome = record { hour = 0; unserved = []; discharge = []; charge = []; energy = []; cut = 0 }

-- an hour falls short where load is unserved in some zone. Its unserved load in MW is as many MWh
abbrev pub is_short : HourOutcome → Bool
is_short outcome = nat_lt 0 (sum outcome.unserved)

-- whether an hour of the run, counted from 0, falls short
unfoldable pub is_short_at : List HourOutcome → ℕ → Bool
is_short_at run hour = is_short (slice_index_or run hour no_outcome)

-- whether some hour of a day, 24 * day .. 24 * day + 23, falls short
unfoldable pub is_short_day : List HourOutcome → ℕ → Bool
is_short_day run day = list_any (λ hour. is_short_at run (24 * day + hour)) (range_with_len 0 24)

-- whether the hour before falls short; there is none before hour 0
abbrev pub is_short_before : List HourOutcome → ℕ → Bool
is_short_before run zero = false
is_short_before run (suc hour) = is_short_at run hour

-- the hours that fall short
unfoldable pub short_hours : List HourOutcome → ℕ
short_hours run = count_by is_short run

-- the days that hold an hour that falls short; there are no more days than hours
unfoldable pub short_days : List HourOutcome → ℕ
short_days run = count_by (is_short_day run) (range_with_len 0 (length run))

-- the events: hours that fall short and don't follow such an hour
unfoldable pub short_events : List HourOutcome → ℕ
short_events run =
    count_by (λ hour. is_short_at run hour && not (is_short_before run hour)) (range_with_len 0 (length run))

-- the unserved energy over all hours and zones, in MWh
unfoldable pub unserved_energy : List HourOutcome → ℕ
unserved_energy run = sum_by (λ outcome. sum outcome.unserved) run

-- the unserved energy of a zone, in MWh
unfoldable pub zone_energy : List HourOutcome → ℕ → ℕ
zone_energy run zone = sum_by (λ outcome. slice_index outcome.unserved zone) run

-- the hours with a cut, and their unserved energy
unfoldable pub cut_hours : List HourOutcome → ℕ → ℕ
cut_hours run mask = count_by (λ outcome. outcome.cut == mask) run

unfoldable pub cut_energy : List HourOutcome → ℕ → ℕ
cut_energy run mask = sum_by (λ outcome. if outcome.cut == mask then sum outcome.unserved else 0) run

-- the figures of a sample: hours, days and events of shortfall, unserved energy in MWh, over all zones
-- and by zone, and a row for each cut, ascending by mask
pub record Figures : Type 0 where
  pub hours : ℕ
  pub days : ℕ
  pub events : ℕ
  pub unserved : ℕ
  pub zones : List ℕ
  pub cuts : List CutRow

-- the figures of a run in so many zones
unfoldable pub figures_of : ℕ → List HourOutcome → Figures
figures_of zones run = record {
  hours = short_hours run;
  days = short_days run;
  events = short_events run;
  unserved = unserved_energy run;
  zones = map (zone_energy run) (range_with_len 0 zones);
  cuts = rows_of (cut_hours run) (cut_energy run) (masks zones);
}

-- the last hour below `end` that falls short
unfoldable pub last_short_below : List HourOutcome → ℕ → Option ℕ
last_short_below run zero = None
last_short_below run (suc hour) = if is_short_at run hour then Some hour else last_short_below run hour

-- a result while its hours come in: how many hours it has room for, how many came, the last of them
-- that fell short, and the figures so far
pub record Tally : Type 0 where
  pub room : ℕ
  pub counted : ℕ
  pub last : Option ℕ
  pub figures : Figures

-- the tally of the hours of a run
unfoldable pub tally_of : ℕ → ℕ → List HourOutcome → Tally
tally_of room zones run = record {
  room = room;
  counted = length run;
  last = last_short_below run (length run);
  figures = figures_of zones run;
}

-- whether an hour is in the day of an earlier one, and whether it follows it
abbrev pub is_same_day : Option ℕ → ℕ → Bool
is_same_day None hour = false
is_same_day (Some last) hour = (last / 24) == (hour / 24)

abbrev pub is_next_hour : Option ℕ → ℕ → Bool
is_next_hour None hour = false
is_next_hour (Some last) hour = (last + 1) == hour

-- the ranges of a tally's parts
pub record IsInRange (tally : Tally) : Type 0 where
  pub room : tally.room ≤ MOST_HOURS
  pub counted : tally.counted ≤ tally.room
  pub hours : tally.figures.hours ≤ tally.counted
  pub days : tally.figures.days ≤ tally.counted
  pub events : tally.figures.events ≤ tally.counted
  pub unserved : tally.figures.unserved ≤ tally.counted * MOST_POOLED_MW
  pub some_zone : 0 < length tally.figures.zones
  pub few_zones : length tally.figures.zones ≤ MOST_ZONES
  pub zones : (z : ℕ) → slice_index tally.figures.zones z ≤ tally.counted * MOST_POOLED_MW
  pub few_rows : length tally.figures.cuts ≤ tally.counted
  pub rows : AreRows 1 (2 ^ length tally.figures.zones) tally.figures.cuts
  pub row_hours : (m : ℕ) → hours_at tally.figures.cuts m ≤ tally.counted
  pub row_unserved : (m : ℕ) → cut_unserved tally.figures.cuts m ≤ tally.counted * MOST_POOLED_MW
