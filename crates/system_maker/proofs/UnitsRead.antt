-- The plain table of units is read as the units.
use Rattle.std.proofs.Common.{◌≡◌, ℕ, ◌+◌, ◌<◌, ◌≤◌, [], ◌∷◌, length, take, codes, Ok, refl, sym, ap, ◌∙◌, arith}
use Rattle.std.proofs.lemmas.Bool.{le-ltb}
use Rattle.std.proofs.lemmas.List.{length-take-le, take_more, take_all}
use Rattle.std.proofs.lemmas.List.Elements.{All-get_or}
use Rattle.std.proofs.lemmas.List.Sums.{sum_by_more_le}
use Rattle.csv.specs.Reading.{strip_bom}
use Rattle.ra_base.specs.declared.limits.TheConstants.{MOST_UNITS, MOST_POOLED_MW}
use Rattle.ra_base.specs.declared.table.TableName.TheVariants.{Units}
use Rattle.system_model.specs.declared.components.Unit.{Unit as UnitPart}
use Rattle.system_model.specs.System.{SystemParts, IsName, IsUnitAmong, zone_count, unit_count, unit_at, unit_name_at, pooled_capacity, no_unit}
use Rattle.system_tables.specs.declared.faults.Column.TheVariants.{Fixed}
use Rattle.system_tables.specs.Columns.{column_in, places_from, found_column}
use Rattle.system_tables.specs.Faults.{table_in, below}
use Rattle.system_tables.specs.Records.{Rows}
use Rattle.system_tables.specs.Units.{unit_columns_in, unit_of, unit_in, unit_rows_in, with_units}
use Rattle.system_maker.specs.PlainTables.{unit_row, unit_header, unit_table}
use Rattle.system_maker.proofs.PlainRecords.{IsPlainRow, table_read}
use Rattle.system_maker.proofs.PlainFields.{whole_plain, fixed_plain, shape_read, whole_read, rates_read, some_rate_read}
use Rattle.system_maker.proofs.PlainNames.{name_read, reference_read}
use Rattle.system_maker.proofs.PlainSystems.{IsPlainSystem, name_at, units_to, to_zones, to_units}
use Rattle.system_maker.proofs.PlainTurns.{rows_in_turn}

columns_read : unit_columns_in unit_header ≡ Ok (record { name = found_column (Fixed 0) 0; zone = found_column (Fixed 1) 1; capacity = found_column (Fixed 2) 2; rates = record { failure = found_column (Fixed 3) 3; repair = found_column (Fixed 4) 4 } })
unfolding unit_columns_in column_in places_from
columns_read = refl

among : (s : SystemParts) → IsPlainSystem s → (k : ℕ) → k < unit_count s → IsUnitAmong (zone_count s) (unit_at s k)
among s p k lt = All-get_or (IsUnitAmong (zone_count s)) s.units k no_unit lt p.valid.within.units.each

named : (s : SystemParts) → IsPlainSystem s → (k : ℕ) → k < unit_count s → k < length s.unit_names
named s p k lt = let size : length s.unit_names ≡ unit_count s = p.valid.within.units.named.size in omega arith

plain_row : (s : SystemParts) → IsPlainSystem s → (k : ℕ) → k < unit_count s → IsPlainRow (unit_row s k)
unfolding unit_row
plain_row s p k lt =
    let unit = among s p k lt in
    let name : IsName (unit_name_at s k) = name_at s.unit_names k p.valid.within.units.named.each (named s p k lt) in
    record {
      plain = rw (
        p.units.plain k (named s p k lt),
        p.zones.plain (unit_at s k).zone unit.zone,
        whole_plain (unit_at s k).capacity (omega (arith, unit.capacity)),
        fixed_plain (unit_at s k).rates.f 9 (omega (arith, unit.rates.failure)),
        fixed_plain (unit_at s k).rates.r 9 (omega (arith, unit.rates.repair)),
      ) refl;
      some = name.some;
    }

of_row : (s : SystemParts) → IsPlainSystem s → (count k : ℕ) → k < unit_count s
    → unit_of (below Units count) (record { name = found_column (Fixed 0) 0; zone = found_column (Fixed 1) 1; capacity = found_column (Fixed 2) 2; rates = record { failure = found_column (Fixed 3) 3; repair = found_column (Fixed 4) 4 } }) s.zone_names (unit_row s k) ≡ Ok (unit_at s k)
unfolding unit_of unit_row
of_row s p count k lt =
    let unit = among s p k lt in
    rw (
      reference_read Units count (Fixed 1) 1 s.zone_names (unit_at s k).zone (unit_row s k) refl p.zones.apart unit.zone,
      whole_read Units count (Fixed 2) 2 0 MOST_POOLED_MW (unit_at s k).capacity (unit_row s k) refl (omega arith) unit.capacity (omega (arith, unit.capacity)),
      rates_read Units count (Fixed 3) (Fixed 4) 3 4 (unit_at s k).rates (unit_row s k) refl refl unit.rates,
      some_rate_read Units count (Fixed 3) (Fixed 4) 3 4 (unit_at s k).rates unit.rates,
    ) refl

step : (s : SystemParts) → IsPlainSystem s → (k : ℕ) → k < unit_count s
    → unit_in (record { name = found_column (Fixed 0) 0; zone = found_column (Fixed 1) 1; capacity = found_column (Fixed 2) 2; rates = record { failure = found_column (Fixed 3) 3; repair = found_column (Fixed 4) 4 } }) 5 (units_to s k) (unit_row s k) ≡ Ok (units_to s (k + 1))
unfolding unit_in unit_row
step s p k lt =
    let size : length (take k s.units) ≡ k = length-take-le k s.units (omega arith) in
    let few : unit_count s ≤ MOST_UNITS = p.valid.within.units.most in
    let name : IsName (unit_name_at s k) = name_at s.unit_names k p.valid.within.units.named.each (named s p k lt) in
    let pooled : pooled_capacity (take k s.units) + (unit_at s k).capacity ≤ MOST_POOLED_MW =
    omega (arith, sum_by_more_le (λ (unit : UnitPart). unit.capacity) s.units k no_unit lt, p.valid.within.units.pooled) in
    rw (
      shape_read Units (length (take k s.units)) MOST_UNITS (length (take k s.units)) 5 (unit_row s k) (omega arith) refl,
      name_read Units (length (take k s.units)) (Fixed 0) 0 s.unit_names k (unit_row s k) refl name p.units.apart (named s p k lt),
      of_row s p (length (take k s.units)) k lt,
      le-ltb MOST_POOLED_MW (pooled_capacity (take k s.units) + (unit_at s k).capacity) pooled,
    )
    (λ i. Ok (record (to_zones s) {
      units = sym (take_more s.units k no_unit lt) i;
      unit_names = sym (take_more s.unit_names k [] (named s p k lt)) i;
    }))

pub units_read : (s : SystemParts) → IsPlainSystem s → with_units (to_zones s) (unit_table s) ≡ Ok (to_units s)
unfolding unit_table unit_rows_in strip_bom
units_read s p =
    let size : length s.unit_names ≡ unit_count s = p.valid.within.units.named.size in
    ap (λ (rows : Rows). table_in Units rows (unit_rows_in (to_zones s)))
    (table_read (codes "name") (codes "zone" ∷ codes "capacity" ∷ codes "failure" ∷ codes "repair" ∷ []) (unit_row s) (unit_count s)
    (λ rest. refl) (record { plain = refl; some = omega arith }) (plain_row s p))
    ∙ rw (columns_read, rows_in_turn (unit_in (record { name = found_column (Fixed 0) 0; zone = found_column (Fixed 1) 1; capacity = found_column (Fixed 2) 2; rates = record { failure = found_column (Fixed 3) 3; repair = found_column (Fixed 4) 4 } }) 5) (units_to s) (unit_row s) (unit_count s) [] (step s p))
    (λ i. Ok (record (to_zones s) {
      units = take_all (unit_count s) s.units (omega arith) i;
      unit_names = take_all (unit_count s) s.unit_names (omega arith) i;
    }))
