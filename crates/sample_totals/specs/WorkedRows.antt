-- Small cases that the definitions compute, each known by hand.
use Rattle.std.specs.Prelude.{◌≡◌, ℕ, true, false, List, [], ◌∷◌, map, Some, None, refl}
use Rattle.std.specs.List.{range_with_len}
use Rattle.sample_totals.specs.declared.outcomes.HourOutcome.{HourOutcome}
use Rattle.sample_totals.specs.CutRows.{rows_of}
use Rattle.sample_totals.specs.Results.{Figures, figures_of, is_short_at, is_short_day, short_hours, short_days, short_events, unserved_energy, zone_energy, cut_hours, cut_energy}
use Rattle.sample_totals.specs.Estimates.{mean_of, error_of, greatest_up_to, is_enough}
use Rattle.sample_totals.specs.Totals.{sums_of, totals_of}

-- an hour without devices
abbrev hour_of : ℕ → List ℕ → ℕ → HourOutcome
hour_of hour unserved cut = record { hour = hour; unserved = unserved; discharge = []; charge = []; energy = []; cut = cut }

-- a day of one zone whose load of 60 MW is never served
abbrev day_out : List HourOutcome
day_out = map (λ hour. hour_of hour (60 ∷ []) 1) (range_with_len 0 24)

abbrev figures_out : Figures
figures_out = record { hours = 24; days = 1; events = 1; unserved = 1440; zones = 1440 ∷ []; cuts = record { mask = 1; hours = 24; unserved = 1440 } ∷ [] }

pub day_out_is : figures_of 1 day_out ≡ figures_out
unfolding figures_of short_hours short_days short_events is_short_at is_short_day unserved_energy zone_energy cut_hours cut_energy rows_of
day_out_is = refl

-- two zones over three hours: the second zone lacks 20 MW in hour 0 and again in hour 2, first with both
-- zones as the cut, then with the second alone, while the first lacks 5 MW; hour 1 is served
abbrev two_zones : List HourOutcome
two_zones = hour_of 0 (0 ∷ 20 ∷ []) 3 ∷ hour_of 1 (0 ∷ 0 ∷ []) 0 ∷ hour_of 2 (5 ∷ 20 ∷ []) 2 ∷ []

abbrev two_zones_figures : Figures
two_zones_figures = record {
  hours = 2;
  days = 1;
  events = 2;
  unserved = 45;
  zones = 5 ∷ 40 ∷ [];
  cuts = record { mask = 2; hours = 1; unserved = 25 } ∷ record { mask = 3; hours = 1; unserved = 20 } ∷ [];
}

pub two_zones_are : figures_of 2 two_zones ≡ two_zones_figures
unfolding figures_of short_hours short_days short_events is_short_at is_short_day unserved_energy zone_energy cut_hours cut_energy rows_of
two_zones_are = refl

-- two samples of a day out
pub two_days_out : (totals_of 1 (day_out ∷ day_out ∷ [])).hours ≡ record { total = 48; squares = 1152 }
unfolding totals_of sums_of short_hours
two_days_out = refl

pub two_days_mean : mean_of (record { total = 48; squares = 1152 }) 2 ≡ 24000
two_days_mean = refl

pub two_days_error : error_of (record { total = 48; squares = 1152 }) 2 ≡ Some 0
unfolding error_of greatest_up_to
two_days_error = refl

pub one_day_error : error_of (record { total = 24; squares = 576 }) 1 ≡ None
unfolding error_of
one_day_error = refl

-- for a precision of 10 thousandths one such sample isn't enough, and two are
pub one_day_is_short : is_enough (record { total = 1440; squares = 2073600 }) 1 (Some 10) ≡ false
one_day_is_short = refl

pub two_days_are_enough : is_enough (record { total = 2880; squares = 4147200 }) 2 (Some 10) ≡ true
two_days_are_enough = refl
