-- The plain table of storages is read as the storages.
use Rattle.std.proofs.Common.{◌≡◌, ℕ, ◌+◌, ◌<◌, ◌≤◌, [], ◌∷◌, length, take, codes, Ok, refl, sym, ap, ◌∙◌, arith}
use Rattle.std.proofs.lemmas.Bool.{le-ltb}
use Rattle.std.proofs.lemmas.List.{length-take-le, take_more, take_all}
use Rattle.std.proofs.lemmas.List.Elements.{All-get_or}
use Rattle.std.proofs.lemmas.List.Sums.{sum_by_more_le}
use Rattle.csv.specs.Reading.{strip_bom}
use Rattle.ra_base.specs.declared.limits.TheConstants.{MOST_STORAGES, MOST_POOLED_MW, MOST_ENERGY_KWH}
use Rattle.ra_base.specs.declared.table.TableName.TheVariants.{Storages}
use Rattle.system_model.specs.declared.components.Storage.{Storage}
use Rattle.system_model.specs.System.{SystemParts, IsName, IsStorageAmong, zone_count, storage_count, storage_at, storage_name_at, pooled_charge, pooled_discharge, no_storage}
use Rattle.system_tables.specs.declared.faults.Column.TheVariants.{Fixed}
use Rattle.system_tables.specs.Columns.{column_in, places_from, found_column}
use Rattle.system_tables.specs.Faults.{table_in, below}
use Rattle.system_tables.specs.Records.{Rows}
use Rattle.system_tables.specs.Storages.{storage_columns_in, storage_of, storage_in, storage_rows_in, with_storages}
use Rattle.system_maker.specs.PlainTables.{storage_row, storage_header, storage_table}
use Rattle.system_maker.proofs.PlainRecords.{IsPlainRow, table_read}
use Rattle.system_maker.proofs.PlainFields.{whole_plain, fixed_plain, shape_read, whole_read, value_read, share_read, rates_read, some_rate_read}
use Rattle.system_maker.proofs.PlainNames.{name_read, reference_read}
use Rattle.system_maker.proofs.PlainSystems.{IsPlainSystem, name_at, storages_to, to_lines, to_storages}
use Rattle.system_maker.proofs.PlainTurns.{rows_in_turn}

columns_read : storage_columns_in storage_header ≡ Ok (record { name = found_column (Fixed 0) 0; zone = found_column (Fixed 1) 1; charge = found_column (Fixed 2) 2; discharge = found_column (Fixed 3) 3; energy = found_column (Fixed 4) 4; start = found_column (Fixed 5) 5; charge_eff = found_column (Fixed 6) 6; discharge_eff = found_column (Fixed 7) 7; carry = found_column (Fixed 8) 8; rates = record { failure = found_column (Fixed 9) 9; repair = found_column (Fixed 10) 10 } })
unfolding storage_columns_in column_in places_from
columns_read = refl

among : (s : SystemParts) → IsPlainSystem s → (k : ℕ) → k < storage_count s → IsStorageAmong (zone_count s) (storage_at s k)
among s p k lt = All-get_or (IsStorageAmong (zone_count s)) s.storages k no_storage lt p.valid.within.storages.each

named : (s : SystemParts) → IsPlainSystem s → (k : ℕ) → k < storage_count s → k < length s.storage_names
named s p k lt = let size : length s.storage_names ≡ storage_count s = p.valid.within.storages.named.size in omega arith

plain_row : (s : SystemParts) → IsPlainSystem s → (k : ℕ) → k < storage_count s → IsPlainRow (storage_row s k)
unfolding storage_row
plain_row s p k lt =
    let storage = among s p k lt in
    let name : IsName (storage_name_at s k) = name_at s.storage_names k p.valid.within.storages.named.each (named s p k lt) in
    record {
      plain = rw (
        p.storages.plain k (named s p k lt),
        p.zones.plain (storage_at s k).zone storage.zone,
        whole_plain (storage_at s k).charge (omega (arith, storage.charge)),
        whole_plain (storage_at s k).discharge (omega (arith, storage.discharge)),
        whole_plain (storage_at s k).energy (omega (arith, storage.energy)),
        whole_plain (storage_at s k).start (omega (arith, storage.start, storage.energy)),
        fixed_plain (storage_at s k).charge_eff 3 (omega (arith, storage.charge_eff.most)),
        fixed_plain (storage_at s k).discharge_eff 3 (omega (arith, storage.discharge_eff.most)),
        fixed_plain (storage_at s k).carry 3 (omega (arith, storage.carry.most)),
        fixed_plain (storage_at s k).rates.f 9 (omega (arith, storage.rates.failure)),
        fixed_plain (storage_at s k).rates.r 9 (omega (arith, storage.rates.repair)),
      ) refl;
      some = name.some;
    }

of_row : (s : SystemParts) → IsPlainSystem s → (count k : ℕ) → k < storage_count s
    → storage_of (below Storages count) (record { name = found_column (Fixed 0) 0; zone = found_column (Fixed 1) 1; charge = found_column (Fixed 2) 2; discharge = found_column (Fixed 3) 3; energy = found_column (Fixed 4) 4; start = found_column (Fixed 5) 5; charge_eff = found_column (Fixed 6) 6; discharge_eff = found_column (Fixed 7) 7; carry = found_column (Fixed 8) 8; rates = record { failure = found_column (Fixed 9) 9; repair = found_column (Fixed 10) 10 } }) s.zone_names (storage_row s k) ≡ Ok (storage_at s k)
unfolding storage_of storage_row
of_row s p count k lt =
    let storage = among s p k lt in
    rw (
      reference_read Storages count (Fixed 1) 1 s.zone_names (storage_at s k).zone (storage_row s k) refl p.zones.apart storage.zone,
      whole_read Storages count (Fixed 2) 2 0 MOST_POOLED_MW (storage_at s k).charge (storage_row s k) refl (omega arith) storage.charge (omega (arith, storage.charge)),
      whole_read Storages count (Fixed 3) 3 0 MOST_POOLED_MW (storage_at s k).discharge (storage_row s k) refl (omega arith) storage.discharge (omega (arith, storage.discharge)),
      whole_read Storages count (Fixed 4) 4 0 MOST_ENERGY_KWH (storage_at s k).energy (storage_row s k) refl (omega arith) storage.energy (omega (arith, storage.energy)),
      value_read Storages count (Fixed 5) 5 (storage_at s k).start (storage_row s k) refl (omega (arith, storage.start, storage.energy)),
      share_read Storages count (Fixed 6) 6 (storage_at s k).charge_eff (storage_row s k) refl storage.charge_eff.some storage.charge_eff.most,
      share_read Storages count (Fixed 7) 7 (storage_at s k).discharge_eff (storage_row s k) refl storage.discharge_eff.some storage.discharge_eff.most,
      share_read Storages count (Fixed 8) 8 (storage_at s k).carry (storage_row s k) refl storage.carry.some storage.carry.most,
      rates_read Storages count (Fixed 9) (Fixed 10) 9 10 (storage_at s k).rates (storage_row s k) refl refl storage.rates,
      le-ltb (storage_at s k).energy (storage_at s k).start storage.start,
      some_rate_read Storages count (Fixed 9) (Fixed 10) 9 10 (storage_at s k).rates storage.rates,
    ) refl

step : (s : SystemParts) → IsPlainSystem s → (k : ℕ) → k < storage_count s
    → storage_in (record { name = found_column (Fixed 0) 0; zone = found_column (Fixed 1) 1; charge = found_column (Fixed 2) 2; discharge = found_column (Fixed 3) 3; energy = found_column (Fixed 4) 4; start = found_column (Fixed 5) 5; charge_eff = found_column (Fixed 6) 6; discharge_eff = found_column (Fixed 7) 7; carry = found_column (Fixed 8) 8; rates = record { failure = found_column (Fixed 9) 9; repair = found_column (Fixed 10) 10 } }) 11 (storages_to s k) (storage_row s k) ≡ Ok (storages_to s (k + 1))
unfolding storage_in storage_row
step s p k lt =
    let size : length (take k s.storages) ≡ k = length-take-le k s.storages (omega arith) in
    let few : storage_count s ≤ MOST_STORAGES = p.valid.within.storages.most in
    let name : IsName (storage_name_at s k) = name_at s.storage_names k p.valid.within.storages.named.each (named s p k lt) in
    let charge : pooled_charge (take k s.storages) + (storage_at s k).charge ≤ MOST_POOLED_MW =
    omega (arith, sum_by_more_le (λ (storage : Storage). storage.charge) s.storages k no_storage lt, p.valid.within.storages.charge) in
    let discharge : pooled_discharge (take k s.storages) + (storage_at s k).discharge ≤ MOST_POOLED_MW =
    omega (arith, sum_by_more_le (λ (storage : Storage). storage.discharge) s.storages k no_storage lt, p.valid.within.storages.discharge) in
    rw (
      shape_read Storages (length (take k s.storages)) MOST_STORAGES (length (take k s.storages)) 11 (storage_row s k) (omega arith) refl,
      name_read Storages (length (take k s.storages)) (Fixed 0) 0 s.storage_names k (storage_row s k) refl name p.storages.apart (named s p k lt),
      of_row s p (length (take k s.storages)) k lt,
      le-ltb MOST_POOLED_MW (pooled_charge (take k s.storages) + (storage_at s k).charge) charge,
      le-ltb MOST_POOLED_MW (pooled_discharge (take k s.storages) + (storage_at s k).discharge) discharge,
    )
    (λ i. Ok (record (to_lines s) {
      storages = sym (take_more s.storages k no_storage lt) i;
      storage_names = sym (take_more s.storage_names k [] (named s p k lt)) i;
    }))

pub storages_read : (s : SystemParts) → IsPlainSystem s → with_storages (to_lines s) (storage_table s) ≡ Ok (to_storages s)
unfolding storage_table storage_rows_in strip_bom
storages_read s p =
    let size : length s.storage_names ≡ storage_count s = p.valid.within.storages.named.size in
    ap (λ (rows : Rows). table_in Storages rows (storage_rows_in (to_lines s)))
    (table_read (codes "name") (codes "zone" ∷ codes "charge" ∷ codes "discharge" ∷ codes "energy_kwh" ∷ codes "start_kwh"
    ∷ codes "charge_efficiency" ∷ codes "discharge_efficiency" ∷ codes "carryover" ∷ codes "failure" ∷ codes "repair" ∷ [])
    (storage_row s) (storage_count s)
    (λ rest. refl) (record { plain = refl; some = omega arith }) (plain_row s p))
    ∙ rw (columns_read, rows_in_turn (storage_in (record { name = found_column (Fixed 0) 0; zone = found_column (Fixed 1) 1; charge = found_column (Fixed 2) 2; discharge = found_column (Fixed 3) 3; energy = found_column (Fixed 4) 4; start = found_column (Fixed 5) 5; charge_eff = found_column (Fixed 6) 6; discharge_eff = found_column (Fixed 7) 7; carry = found_column (Fixed 8) 8; rates = record { failure = found_column (Fixed 9) 9; repair = found_column (Fixed 10) 10 } }) 11) (storages_to s) (storage_row s) (storage_count s) [] (step s p))
    (λ i. Ok (record (to_lines s) {
      storages = take_all (storage_count s) s.storages (omega arith) i;
      storage_names = take_all (storage_count s) s.storage_names (omega arith) i;
    }))
