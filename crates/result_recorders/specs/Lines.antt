-- The line that each recorder has for an hour's outcome. 10 is the line feed, 43 is `+`.
use Rattle.std.specs.Prelude.{ℕ, ◌==◌, nat_lt, List, [], ◌∷◌, ◌++◌, filter, sum, codes, if◌then◌else◌}
use Rattle.std.specs.List.{range_with_len, flat_map, join_by}
use Rattle.ra_base.specs.declared.limits.TheConstants.{MOST_ZONES}
use Rattle.zone_network.specs.Sums.{inside}
use Rattle.decimal_text.specs.DecimalText.{whole_text}
use Rattle.sample_totals.specs.declared.outcomes.HourOutcome.{HourOutcome}

-- each number of a list, with a space in front
unfoldable pub amounts_text : List ℕ → List ℕ
amounts_text amounts = flat_map (λ amount. codes " " ++ whole_text amount) amounts

-- the hour, what each zone lacks, what each device discharges and charges in MW and then holds in kWh, and the
-- cut as a mask
unfoldable pub plain_line : HourOutcome → List ℕ
plain_line outcome =
    codes "hour " ++ whole_text outcome.hour
    ++ codes " unserved" ++ amounts_text outcome.unserved
    ++ codes " discharge" ++ amounts_text outcome.discharge
    ++ codes " charge" ++ amounts_text outcome.charge
    ++ codes " energy" ++ amounts_text outcome.energy
    ++ codes " cut " ++ whole_text outcome.cut ++ 10 ∷ []

-- an hour that falls short, and its unserved load over all zones in MW
unfoldable pub shortfall_line : HourOutcome → List ℕ
shortfall_line outcome =
    if nat_lt 0 (sum outcome.unserved) then
    codes "shortfall " ++ whole_text outcome.hour ++ codes " total " ++ whole_text (sum outcome.unserved) ++ 10 ∷ []
    else []

-- what each device holds after an hour, in kWh
unfoldable pub storage_line : HourOutcome → List ℕ
storage_line outcome = codes "energy " ++ whole_text outcome.hour ++ amounts_text outcome.energy ++ 10 ∷ []

-- the first zones that a mask holds, ascending
unfoldable pub zones_in : ℕ → ℕ → List ℕ
zones_in mask zones = filter (inside mask) (range_with_len 0 zones)

-- numbers joined by `+`
unfoldable pub joined_text : List ℕ → List ℕ
joined_text zones = join_by whole_text (43 ∷ []) zones

-- an hour with a cut: the cut's zones by their numbers, and the unserved load over all zones in MW
unfoldable pub cut_line : HourOutcome → List ℕ
cut_line outcome =
    if outcome.cut == 0 then []
    else
    codes "cut " ++ whole_text outcome.hour
    ++ codes " zones " ++ joined_text (zones_in outcome.cut MOST_ZONES)
    ++ codes " unserved " ++ whole_text (sum outcome.unserved) ++ 10 ∷ []
