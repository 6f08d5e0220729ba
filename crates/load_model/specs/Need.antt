-- What the hours of a system need of its units, with the zones pooled, in MW.
use Rattle.std.specs.Prelude.{ℕ, ◌+◌, ◌-◌, ◌<◌, ◌≤◌, ◌==◌, List, length, fold, max, sum, All}
use Rattle.std.specs.List.{position_or_len}
use Rattle.ra_base.specs.declared.limits.TheConstants.{MOST_HOURS, MOST_POOLED_MW}
use Rattle.system_model.specs.System.{HourAmounts}
use Rattle.load_model.specs.declared.hours.NetHour.{NetHour}
use Rattle.load_model.specs.declared.hours.Peak.{Peak}

-- the load and the variable generation of an hour over all zones
abbrev pub net_hour_of : HourAmounts → NetHour
net_hour_of hour = record { load = sum hour.load; variable = sum hour.variable }

-- the net load, or 0 where it is below 0
abbrev pub need_of : NetHour → ℕ
need_of hour = hour.load - hour.variable

-- the same under `more` MW of further load and `less` MW of further supply
abbrev pub shifted_need_of : ℕ → ℕ → NetHour → ℕ
shifted_need_of less more hour = (hour.load + more) - (hour.variable + less)

-- the greatest need, 0 without hours
abbrev pub greatest_need : List NetHour → ℕ
greatest_need hours = fold (λ most hour. max most (need_of hour)) 0 hours

-- the first hour of the greatest need
abbrev pub peak_of : List NetHour → Peak
peak_of hours =
    record {
      mw = greatest_need hours;
      hour = position_or_len (λ hour. need_of hour == greatest_need hours) hours;
    }

-- an hour within the limits of a system
pub record IsNetHour (hour : NetHour) : Type 0 where
  pub load : hour.load ≤ MOST_POOLED_MW
  pub variable : hour.variable ≤ MOST_POOLED_MW

-- the hours of a system
pub record AreNetHours (hours : List NetHour) : Type 0 where
  pub some : 0 < length hours
  pub few : length hours ≤ MOST_HOURS
  pub each : All IsNetHour hours

-- what stands past the last hour: nothing
abbrev pub no_net_hour : NetHour
no_net_hour = record { load = 0; variable = 0 }
