-- The plain table of interfaces is read as the interfaces.
use Rattle.std.proofs.Common.{◌≡◌, ℕ, ◌+◌, ◌<◌, ◌≤◌, [], ◌∷◌, length, take, codes, Ok, refl, sym, ap, ◌∙◌, arith}
use Rattle.std.proofs.lemmas.Bool.{ne_eqb}
use Rattle.std.proofs.lemmas.List.{length-take-le, take_more, take_all}
use Rattle.std.proofs.lemmas.List.Elements.{All-get_or}
use Rattle.csv.specs.Reading.{strip_bom}
use Rattle.ra_base.specs.declared.limits.TheConstants.{MOST_INTERFACES, MOST_LINK_MW}
use Rattle.ra_base.specs.declared.table.TableName.TheVariants.{Interfaces}
use Rattle.system_model.specs.System.{SystemParts, IsName, IsInterfaceAmong, zone_count, interface_count, interface_at, interface_name_at, no_interface}
use Rattle.system_tables.specs.declared.faults.Column.TheVariants.{Fixed}
use Rattle.system_tables.specs.Columns.{column_in, places_from, found_column}
use Rattle.system_tables.specs.Faults.{table_in, below}
use Rattle.system_tables.specs.Interfaces.{interface_columns_in, interface_of, interface_in, interface_rows_in, with_interfaces}
use Rattle.system_tables.specs.Records.{Rows}
use Rattle.system_maker.specs.PlainTables.{interface_row, interface_header, interface_table}
use Rattle.system_maker.proofs.PlainRecords.{IsPlainRow, table_read}
use Rattle.system_maker.proofs.PlainFields.{whole_plain, shape_read, whole_read}
use Rattle.system_maker.proofs.PlainNames.{name_read, reference_read}
use Rattle.system_maker.proofs.PlainSystems.{IsPlainSystem, name_at, interfaces_to, to_units, to_interfaces}
use Rattle.system_maker.proofs.PlainTurns.{rows_in_turn}

columns_read : interface_columns_in interface_header ≡ Ok (record { name = found_column (Fixed 0) 0; start = found_column (Fixed 1) 1; end = found_column (Fixed 2) 2; forward = found_column (Fixed 3) 3; backward = found_column (Fixed 4) 4 })
unfolding interface_columns_in column_in places_from
columns_read = refl

among : (s : SystemParts) → IsPlainSystem s → (k : ℕ) → k < interface_count s → IsInterfaceAmong (zone_count s) (interface_at s k)
among s p k lt = All-get_or (IsInterfaceAmong (zone_count s)) s.interfaces k no_interface lt p.valid.within.interfaces.each

named : (s : SystemParts) → IsPlainSystem s → (k : ℕ) → k < interface_count s → k < length s.interface_names
named s p k lt = let size : length s.interface_names ≡ interface_count s = p.valid.within.interfaces.named.size in omega arith

plain_row : (s : SystemParts) → IsPlainSystem s → (k : ℕ) → k < interface_count s → IsPlainRow (interface_row s k)
unfolding interface_row
plain_row s p k lt =
    let interface = among s p k lt in
    let name : IsName (interface_name_at s k) = name_at s.interface_names k p.valid.within.interfaces.named.each (named s p k lt) in
    record {
      plain = rw (
        p.interfaces.plain k (named s p k lt),
        p.zones.plain (interface_at s k).from interface.start,
        p.zones.plain (interface_at s k).to interface.end,
        whole_plain (interface_at s k).forward (omega (arith, interface.forward)),
        whole_plain (interface_at s k).backward (omega (arith, interface.backward)),
      ) refl;
      some = name.some;
    }

of_row : (s : SystemParts) → IsPlainSystem s → (count k : ℕ) → k < interface_count s
    → interface_of (below Interfaces count) (record { name = found_column (Fixed 0) 0; start = found_column (Fixed 1) 1; end = found_column (Fixed 2) 2; forward = found_column (Fixed 3) 3; backward = found_column (Fixed 4) 4 }) s.zone_names (interface_row s k) ≡ Ok (interface_at s k)
unfolding interface_of interface_row
of_row s p count k lt =
    let interface = among s p k lt in
    rw (
      reference_read Interfaces count (Fixed 1) 1 s.zone_names (interface_at s k).from (interface_row s k) refl p.zones.apart interface.start,
      reference_read Interfaces count (Fixed 2) 2 s.zone_names (interface_at s k).to (interface_row s k) refl p.zones.apart interface.end,
      whole_read Interfaces count (Fixed 3) 3 0 MOST_LINK_MW (interface_at s k).forward (interface_row s k) refl (omega arith) interface.forward (omega (arith, interface.forward)),
      whole_read Interfaces count (Fixed 4) 4 0 MOST_LINK_MW (interface_at s k).backward (interface_row s k) refl (omega arith) interface.backward (omega (arith, interface.backward)),
      ne_eqb (interface_at s k).from (interface_at s k).to interface.apart,
    ) refl

step : (s : SystemParts) → IsPlainSystem s → (k : ℕ) → k < interface_count s
    → interface_in (record { name = found_column (Fixed 0) 0; start = found_column (Fixed 1) 1; end = found_column (Fixed 2) 2; forward = found_column (Fixed 3) 3; backward = found_column (Fixed 4) 4 }) 5 (interfaces_to s k) (interface_row s k) ≡ Ok (interfaces_to s (k + 1))
unfolding interface_in interface_row
step s p k lt =
    let size : length (take k s.interfaces) ≡ k = length-take-le k s.interfaces (omega arith) in
    let few : interface_count s ≤ MOST_INTERFACES = p.valid.within.interfaces.most in
    let name : IsName (interface_name_at s k) = name_at s.interface_names k p.valid.within.interfaces.named.each (named s p k lt) in
    rw (
      shape_read Interfaces (length (take k s.interfaces)) MOST_INTERFACES (length (take k s.interfaces)) 5 (interface_row s k) (omega arith) refl,
      name_read Interfaces (length (take k s.interfaces)) (Fixed 0) 0 s.interface_names k (interface_row s k) refl name p.interfaces.apart (named s p k lt),
      of_row s p (length (take k s.interfaces)) k lt,
    )
    (λ i. Ok (record (to_units s) {
      interfaces = sym (take_more s.interfaces k no_interface lt) i;
      interface_names = sym (take_more s.interface_names k [] (named s p k lt)) i;
    }))

pub interfaces_read : (s : SystemParts) → IsPlainSystem s → with_interfaces (to_units s) (interface_table s) ≡ Ok (to_interfaces s)
unfolding interface_table interface_rows_in strip_bom
interfaces_read s p =
    let size : length s.interface_names ≡ interface_count s = p.valid.within.interfaces.named.size in
    ap (λ (rows : Rows). table_in Interfaces rows (interface_rows_in (to_units s)))
    (table_read (codes "name") (codes "from" ∷ codes "to" ∷ codes "forward" ∷ codes "backward" ∷ []) (interface_row s) (interface_count s)
    (λ rest. refl) (record { plain = refl; some = omega arith }) (plain_row s p))
    ∙ rw (columns_read, rows_in_turn (interface_in (record { name = found_column (Fixed 0) 0; start = found_column (Fixed 1) 1; end = found_column (Fixed 2) 2; forward = found_column (Fixed 3) 3; backward = found_column (Fixed 4) 4 }) 5) (interfaces_to s) (interface_row s) (interface_count s) [] (step s p))
    (λ i. Ok (record (to_units s) {
      interfaces = take_all (interface_count s) s.interfaces (omega arith) i;
      interface_names = take_all (interface_count s) s.interface_names (omega arith) i;
    }))
