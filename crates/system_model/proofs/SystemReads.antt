use Rattle.std.proofs.Common.{◌≡◌, ℕ, ◌+◌, ◌*◌, ◌<◌, ◌≤◌, length, sym, ap, ◌∙◌, arith}
use Rattle.std.proofs.lemmas.List.Elements.{All-get_or}
use Rattle.std.proofs.lemmas.List.Sums.{get_or-le-sum_by}
use Rattle.ra_base.specs.declared.limits.TheConstants.{MOST_POOLED_MW}
use Rattle.system_model.specs.declared.parts.Parts.{Parts}
use Rattle.system_model.specs.System.{SystemParts, IsHourAmong, IsValid, no_hour, zone_count, hour_count, hour_at, hourly_load, hourly_variable}
use Rattle.system_model.specs.Parts.{parts_of, IsFilled}
use Rattle.system_model.proofs.HourLists.{length-hours_of, place_in_range}

-- where the amounts of a zone in an hour stand in the lists of a system
pub record Stands (p : Parts) (h z width : ℕ) : Type 0 where
  pub hour : h < p.hours
  pub zone : z < length p.zone_names.items
  pub load : h * width + z < length p.load.items
  pub variable : h * width + z < length p.variable.items

pub stands : (p : Parts) (s : SystemParts) (width hour zone : ℕ)
    → parts_of p ≡ s
    → width ≡ length p.zone_names.items
    → IsFilled (length p.zone_names.items) p.hours p.load.items p.variable.items
    → hour < hour_count s
    → zone < zone_count s
    → Stands p hour zone width
stands p s width hour zone is wide filled below among =
    let hours : p.hours ≡ hour_count s = sym (length-hours_of _ _ _ _) ∙ ap hour_count is in
    let zones : length p.zone_names.items ≡ zone_count s = ap zone_count is in
    record {
      hour = omega arith;
      zone = omega arith;
      load = place_in_range width p.hours p.load.items hour zone (rw wide filled.load_size) (omega arith) (omega arith);
      variable = place_in_range width p.hours p.variable.items hour zone (rw wide filled.variable_size) (omega arith) (omega arith);
    }

-- no load and no variable generation is above that of all zones together
pub hourly_load-le : (s : SystemParts) (hour zone : ℕ)
    → IsValid s
    → hour < length s.hours
    → zone < length s.zone_names
    → hourly_load s hour zone ≤ MOST_POOLED_MW
hourly_load-le s hour zone valid below among =
    let h : IsHourAmong (length s.zone_names) (hour_at s hour) =
    All-get_or (IsHourAmong (length s.zone_names)) s.hours hour no_hour below valid.within.hours.each in
    omega (arith, h.load, h.load_by_zone, get_or-le-sum_by (λ (x : ℕ). x) (hour_at s hour).load zone 0 (omega (arith, h.load_by_zone)))

pub hourly_variable-le : (s : SystemParts) (hour zone : ℕ)
    → IsValid s
    → hour < length s.hours
    → zone < length s.zone_names
    → hourly_variable s hour zone ≤ MOST_POOLED_MW
hourly_variable-le s hour zone valid below among =
    let h : IsHourAmong (length s.zone_names) (hour_at s hour) =
    All-get_or (IsHourAmong (length s.zone_names)) s.hours hour no_hour below valid.within.hours.each in
    omega (arith, h.variable, h.variable_by_zone, get_or-le-sum_by (λ (x : ℕ). x) (hour_at s hour).variable zone 0 (omega (arith, h.variable_by_zone)))
