-- The plain table of zones is read as the zones.
use Rattle.std.proofs.Common.{◌≡◌, ℕ, ◌+◌, ◌<◌, ◌≤◌, [], length, take, codes, Ok, refl, sym, ap, ◌∙◌, arith}
use Rattle.std.proofs.lemmas.Bool.{ne_eqb}
use Rattle.std.proofs.lemmas.List.{length-take-le, take_more, take_all}
use Rattle.csv.specs.Reading.{strip_bom}
use Rattle.ra_base.specs.declared.limits.TheConstants.{MOST_ZONES}
use Rattle.ra_base.specs.declared.table.TableName.TheVariants.{Zones}
use Rattle.system_model.specs.System.{SystemParts, IsName, no_parts, zone_count, zone_name_at}
use Rattle.system_tables.specs.declared.faults.Column.TheVariants.{Fixed}
use Rattle.system_tables.specs.Columns.{column_in, places_from, found_column}
use Rattle.system_tables.specs.Faults.{table_in}
use Rattle.system_tables.specs.Names.{Names}
use Rattle.system_tables.specs.Records.{Rows}
use Rattle.system_tables.specs.Zones.{zone_columns_in, zone_in, some_zone_in, zone_rows_in, with_zones}
use Rattle.system_maker.specs.PlainTables.{zone_row, zone_header, zone_table}
use Rattle.system_maker.proofs.PlainRecords.{IsPlainRow, table_read}
use Rattle.system_maker.proofs.PlainFields.{shape_read}
use Rattle.system_maker.proofs.PlainNames.{zone_name_read}
use Rattle.system_maker.proofs.PlainSystems.{IsPlainSystem, name_at, zones_to, to_zones}
use Rattle.system_maker.proofs.PlainTurns.{rows_in_turn}

columns_read : zone_columns_in zone_header ≡ Ok (record { name = found_column (Fixed 0) 0 })
unfolding zone_columns_in column_in places_from
columns_read = refl

plain_row : (s : SystemParts) → IsPlainSystem s → (k : ℕ) → k < zone_count s → IsPlainRow (zone_row s k)
plain_row s p k lt =
    let name : IsName (zone_name_at s k) = name_at s.zone_names k p.valid.within.zone_names lt in
    record { plain = rw (p.zones.plain k lt) refl; some = name.some }

step : (s : SystemParts) → IsPlainSystem s → (k : ℕ) → k < zone_count s
    → zone_in (record { name = found_column (Fixed 0) 0 }) 1 (zones_to s k) (zone_row s k) ≡ Ok (zones_to s (k + 1))
unfolding zone_in
step s p k lt =
    let size : length (take k s.zone_names) ≡ k = length-take-le k s.zone_names (omega arith) in
    let few : length s.zone_names ≤ MOST_ZONES = p.valid.within.zones in
    let name : IsName (zone_name_at s k) = name_at s.zone_names k p.valid.within.zone_names lt in
    rw (
      shape_read Zones (length (take k s.zone_names)) MOST_ZONES (length (take k s.zone_names)) 1 (zone_row s k) (omega arith) refl,
      zone_name_read Zones (length (take k s.zone_names)) (Fixed 0) 0 s.zone_names k (zone_row s k) refl name p.zones.apart lt (p.no_hours k lt),
    )
    (ap (λ (names : Names). Ok (record no_parts { zone_names = names })) (sym (take_more s.zone_names k [] lt)))

some_read : (s : SystemParts) → 0 < zone_count s → some_zone_in s ≡ Ok s
unfolding some_zone_in
some_read s some = rw (ne_eqb (zone_count s) 0 (λ e. absurd (omega arith))) refl

pub zones_read : (s : SystemParts) → IsPlainSystem s → with_zones no_parts (zone_table s) ≡ Ok (to_zones s)
unfolding zone_table zone_rows_in strip_bom
zones_read s p =
    let whole : zones_to s (zone_count s) ≡ to_zones s =
    ap (λ (names : Names). record no_parts { zone_names = names }) (take_all (zone_count s) s.zone_names (omega arith)) in
    ap (λ (rows : Rows). table_in Zones rows (zone_rows_in no_parts))
    (table_read (codes "name") [] (zone_row s) (zone_count s) (λ rest. refl) (record { plain = refl; some = omega arith }) (plain_row s p))
    ∙ rw (columns_read, rows_in_turn (zone_in (record { name = found_column (Fixed 0) 0 }) 1) (zones_to s) (zone_row s) (zone_count s) [] (step s p), whole)
    (some_read (to_zones s) p.valid.zone)
