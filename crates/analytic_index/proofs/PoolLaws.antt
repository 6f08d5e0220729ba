-- The units of a pool are within the limits of an outage table.
use Rattle.std.proofs.Common.{◌≡◌, ◌+◌, ◌≤◌, List, [], ◌∷◌, length, map, Option, Some, None, refl, sym, ap, ◌∙◌, arith}
use Rattle.std.proofs.lemmas.List.Elements.{All-nil, All-cons, All-append, All-map, All-weaker}
use Rattle.std.proofs.lemmas.List.Sums.{sum_by-cons, sum_by-append}
use Rattle.ra_base.specs.declared.limits.TheConstants.{MOST_POOLED_MW, MOST_TABLE_MW}
use Rattle.system_model.specs.declared.components.Unit.{Unit as UnitPart}
use Rattle.system_model.specs.Rates.{AreRates}
use Rattle.system_model.specs.System.{SystemParts, IsUnitAmong, IsValid, pooled_capacity}
use Rattle.outage_table.specs.States.{total_capacity}
use Rattle.outage_table.proofs.StateLaws.{AreRated}
use Rattle.analytic_index.specs.declared.pool.NewUnit.{NewUnit}
use Rattle.analytic_index.specs.Pool.{pooled_unit, extra_units, pooled_units, IsExtra}

-- the whole capacity of units in the pool is the pooled capacity
total_of_pooled : (units : List UnitPart) → total_capacity (map pooled_unit units) ≡ pooled_capacity units
total_of_pooled [] = refl
total_of_pooled (unit ∷ units) =
    sum_by-cons (λ u. u.capacity) (pooled_unit unit) (map pooled_unit units)
    ∙ ap (λ n. unit.capacity + n) (total_of_pooled units)
    ∙ sym (sum_by-cons (λ (u : UnitPart). u.capacity) unit units)

extra_within : (extra : Option NewUnit) → IsExtra extra → total_capacity (extra_units extra) ≤ MOST_POOLED_MW
extra_within None is = omega arith
extra_within (Some unit) is = omega (arith, is.capacity)

extra_rated : (extra : Option NewUnit) → IsExtra extra → AreRated (extra_units extra)
extra_rated None is = All-nil (λ unit. AreRates unit.rates)
extra_rated (Some unit) is = All-cons (λ unit. AreRates unit.rates) _ [] is.rates (All-nil (λ unit. AreRates unit.rates))

pub pooled_within : (s : SystemParts) (extra : Option NewUnit) → IsValid s → IsExtra extra
    → total_capacity (pooled_units s extra) ≤ MOST_TABLE_MW
pooled_within s extra valid is =
    rw (sum_by-append (λ u. u.capacity) (map pooled_unit s.units) (extra_units extra), total_of_pooled s.units)
    (omega (arith, extra_within extra is, valid.within.units.pooled))

-- without an extra one
pub alone_within : (s : SystemParts) (extra : Option NewUnit) → IsValid s → extra ≡ None
    → total_capacity (pooled_units s extra) ≤ MOST_POOLED_MW
alone_within s extra valid none =
    rw (none, sum_by-append (λ u. u.capacity) (map pooled_unit s.units) [], total_of_pooled s.units)
    (omega (arith, valid.within.units.pooled))

pub pooled_rated : (s : SystemParts) (extra : Option NewUnit) → IsValid s → IsExtra extra
    → AreRated (pooled_units s extra)
pooled_rated s extra valid is =
    All-append (λ unit. AreRates unit.rates) (map pooled_unit s.units) (extra_units extra)
    (All-map (λ unit. AreRates unit.rates) pooled_unit s.units
    (All-weaker (IsUnitAmong (length s.zone_names)) (λ unit. AreRates unit.rates) (λ unit among. among.rates) s.units valid.within.units.each))
    (extra_rated extra is)
