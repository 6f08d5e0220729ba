-- Sums over the zones of an hour, and over the hours.
use Rattle.std.proofs.Common.{◌≡◌, ℕ, ◌+◌, ◌<◌, ◌≤◌, List, length, get_or, take, map, sum_by, sym, arith}
use Rattle.std.proofs.lemmas.List.{take_all, length-map}
use Rattle.std.proofs.lemmas.List.Elements.{All-get_or, All-map, All-from_get_or}
use Rattle.std.proofs.lemmas.List.Sums.{sum_by_more}
use Rattle.ra_base.specs.declared.limits.TheConstants.{MOST_POOLED_MW}
use Rattle.system_model.specs.System.{SystemParts, IsHourAmong, IsValid, hour_at, no_hour}
use Rattle.load_model.specs.declared.hours.NetHour.{NetHour}
use Rattle.load_model.specs.Need.{IsNetHour, AreNetHours, need_of, net_hour_of, no_net_hour}

-- an hour of a valid system
pub hour_among : (s : SystemParts) (hour : ℕ) → IsValid s → hour < length s.hours
    → IsHourAmong (length s.zone_names) (hour_at s hour)
hour_among s hour valid below =
    All-get_or (IsHourAmong (length s.zone_names)) s.hours hour no_hour below valid.within.hours.each

-- an hour's need is within the limit
pub need-le : (hours : List NetHour) (i : ℕ) (d : NetHour) → AreNetHours hours → i < length hours
    → need_of (get_or hours i d) ≤ MOST_POOLED_MW
need-le hours i d are h =
    let hour : IsNetHour (get_or hours i d) = All-get_or IsNetHour hours i d h are.each in
    omega (arith, hour.load)

-- the total so far and one hour's need
pub total_more : (hours : List NetHour) (i total mw : ℕ) → AreNetHours hours → i < length hours
    → total ≡ sum_by need_of (take i hours) → mw ≡ need_of (get_or hours i no_net_hour)
    → total + mw ≡ sum_by need_of (take (i + 1) hours)
total_more hours i total mw are h e r = rw (e, r) (sym (sum_by_more need_of hours i no_net_hour h))

net_hour_among : (s : SystemParts) (hour : ℕ) → IsValid s → hour < length s.hours
    → IsNetHour (net_hour_of (hour_at s hour))
net_hour_among s hour valid below =
    let among = hour_among s hour valid below in
    record { load = among.load; variable = among.variable }

-- the net loads of a valid system's hours
pub all_net_hours : (s : SystemParts) (n : ℕ) (hours : List NetHour) → IsValid s → length s.hours ≤ n
    → hours ≡ map net_hour_of (take n s.hours) → AreNetHours hours
all_net_hours s n hours valid whole e =
    rw (e, take_all n s.hours whole) (record {
      some = rw (length-map s.hours net_hour_of) valid.hour;
      few = rw (length-map s.hours net_hour_of) valid.within.hours.most;
      each = All-map IsNetHour net_hour_of s.hours
          (All-from_get_or (λ hour. IsNetHour (net_hour_of hour)) s.hours no_hour (λ i h. net_hour_among s i valid h));
    })
