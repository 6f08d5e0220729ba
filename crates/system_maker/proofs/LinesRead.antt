-- The plain table of lines is read as the lines.
use Rattle.std.proofs.Common.{◌≡◌, ℕ, ◌+◌, ◌<◌, ◌≤◌, [], ◌∷◌, length, take, codes, Ok, refl, sym, ap, ◌∙◌, arith}
use Rattle.std.proofs.lemmas.List.{length-take-le, take_more, take_all}
use Rattle.std.proofs.lemmas.List.Elements.{All-get_or}
use Rattle.csv.specs.Reading.{strip_bom}
use Rattle.ra_base.specs.declared.limits.TheConstants.{MOST_LINES, MOST_LINK_MW}
use Rattle.ra_base.specs.declared.table.TableName.TheVariants.{Lines}
use Rattle.system_model.specs.System.{SystemParts, IsName, IsLineAmong, interface_count, line_count, line_at, line_name_at, no_line}
use Rattle.system_tables.specs.declared.faults.Column.TheVariants.{Fixed}
use Rattle.system_tables.specs.Columns.{column_in, places_from, found_column}
use Rattle.system_tables.specs.Faults.{table_in, below}
use Rattle.system_tables.specs.Lines.{line_columns_in, line_of, line_in, line_rows_in, with_lines}
use Rattle.system_tables.specs.Records.{Rows}
use Rattle.system_maker.specs.PlainTables.{line_row, line_header, line_table}
use Rattle.system_maker.proofs.PlainRecords.{IsPlainRow, table_read}
use Rattle.system_maker.proofs.PlainFields.{whole_plain, fixed_plain, shape_read, whole_read, rates_read, some_rate_read}
use Rattle.system_maker.proofs.PlainNames.{name_read, reference_read}
use Rattle.system_maker.proofs.PlainSystems.{IsPlainSystem, name_at, lines_to, to_interfaces, to_lines}
use Rattle.system_maker.proofs.PlainTurns.{rows_in_turn}

columns_read : line_columns_in line_header ≡ Ok (record { name = found_column (Fixed 0) 0; interface = found_column (Fixed 1) 1; forward = found_column (Fixed 2) 2; backward = found_column (Fixed 3) 3; rates = record { failure = found_column (Fixed 4) 4; repair = found_column (Fixed 5) 5 } })
unfolding line_columns_in column_in places_from
columns_read = refl

among : (s : SystemParts) → IsPlainSystem s → (k : ℕ) → k < line_count s → IsLineAmong (interface_count s) (line_at s k)
among s p k lt = All-get_or (IsLineAmong (interface_count s)) s.lines k no_line lt p.valid.within.lines.each

named : (s : SystemParts) → IsPlainSystem s → (k : ℕ) → k < line_count s → k < length s.line_names
named s p k lt = let size : length s.line_names ≡ line_count s = p.valid.within.lines.named.size in omega arith

-- the interface of a line has a name
linked : (s : SystemParts) → IsPlainSystem s → (k : ℕ) → k < line_count s → (line_at s k).interface < length s.interface_names
linked s p k lt =
    let size : length s.interface_names ≡ interface_count s = p.valid.within.interfaces.named.size in
    omega (arith, (among s p k lt).interface)

plain_row : (s : SystemParts) → IsPlainSystem s → (k : ℕ) → k < line_count s → IsPlainRow (line_row s k)
unfolding line_row
plain_row s p k lt =
    let line = among s p k lt in
    let name : IsName (line_name_at s k) = name_at s.line_names k p.valid.within.lines.named.each (named s p k lt) in
    record {
      plain = rw (
        p.lines.plain k (named s p k lt),
        p.interfaces.plain (line_at s k).interface (linked s p k lt),
        whole_plain (line_at s k).forward (omega (arith, line.forward)),
        whole_plain (line_at s k).backward (omega (arith, line.backward)),
        fixed_plain (line_at s k).rates.f 9 (omega (arith, line.rates.failure)),
        fixed_plain (line_at s k).rates.r 9 (omega (arith, line.rates.repair)),
      ) refl;
      some = name.some;
    }

of_row : (s : SystemParts) → IsPlainSystem s → (count k : ℕ) → k < line_count s
    → line_of (below Lines count) (record { name = found_column (Fixed 0) 0; interface = found_column (Fixed 1) 1; forward = found_column (Fixed 2) 2; backward = found_column (Fixed 3) 3; rates = record { failure = found_column (Fixed 4) 4; repair = found_column (Fixed 5) 5 } }) s.interface_names (line_row s k) ≡ Ok (line_at s k)
unfolding line_of line_row
of_row s p count k lt =
    let line = among s p k lt in
    rw (
      reference_read Lines count (Fixed 1) 1 s.interface_names (line_at s k).interface (line_row s k) refl p.interfaces.apart (linked s p k lt),
      whole_read Lines count (Fixed 2) 2 0 MOST_LINK_MW (line_at s k).forward (line_row s k) refl (omega arith) line.forward (omega (arith, line.forward)),
      whole_read Lines count (Fixed 3) 3 0 MOST_LINK_MW (line_at s k).backward (line_row s k) refl (omega arith) line.backward (omega (arith, line.backward)),
      rates_read Lines count (Fixed 4) (Fixed 5) 4 5 (line_at s k).rates (line_row s k) refl refl line.rates,
      some_rate_read Lines count (Fixed 4) (Fixed 5) 4 5 (line_at s k).rates line.rates,
    ) refl

step : (s : SystemParts) → IsPlainSystem s → (k : ℕ) → k < line_count s
    → line_in (record { name = found_column (Fixed 0) 0; interface = found_column (Fixed 1) 1; forward = found_column (Fixed 2) 2; backward = found_column (Fixed 3) 3; rates = record { failure = found_column (Fixed 4) 4; repair = found_column (Fixed 5) 5 } }) 6 (lines_to s k) (line_row s k) ≡ Ok (lines_to s (k + 1))
unfolding line_in line_row
step s p k lt =
    let size : length (take k s.lines) ≡ k = length-take-le k s.lines (omega arith) in
    let few : line_count s ≤ MOST_LINES = p.valid.within.lines.most in
    let name : IsName (line_name_at s k) = name_at s.line_names k p.valid.within.lines.named.each (named s p k lt) in
    rw (
      shape_read Lines (length (take k s.lines)) MOST_LINES (length (take k s.lines)) 6 (line_row s k) (omega arith) refl,
      name_read Lines (length (take k s.lines)) (Fixed 0) 0 s.line_names k (line_row s k) refl name p.lines.apart (named s p k lt),
      of_row s p (length (take k s.lines)) k lt,
    )
    (λ i. Ok (record (to_interfaces s) {
      lines = sym (take_more s.lines k no_line lt) i;
      line_names = sym (take_more s.line_names k [] (named s p k lt)) i;
    }))

pub lines_read : (s : SystemParts) → IsPlainSystem s → with_lines (to_interfaces s) (line_table s) ≡ Ok (to_lines s)
unfolding line_table line_rows_in strip_bom
lines_read s p =
    let size : length s.line_names ≡ line_count s = p.valid.within.lines.named.size in
    ap (λ (rows : Rows). table_in Lines rows (line_rows_in (to_interfaces s)))
    (table_read (codes "name") (codes "interface" ∷ codes "forward" ∷ codes "backward" ∷ codes "failure" ∷ codes "repair" ∷ []) (line_row s) (line_count s)
    (λ rest. refl) (record { plain = refl; some = omega arith }) (plain_row s p))
    ∙ rw (columns_read, rows_in_turn (line_in (record { name = found_column (Fixed 0) 0; interface = found_column (Fixed 1) 1; forward = found_column (Fixed 2) 2; backward = found_column (Fixed 3) 3; rates = record { failure = found_column (Fixed 4) 4; repair = found_column (Fixed 5) 5 } }) 6) (lines_to s) (line_row s) (line_count s) [] (step s p))
    (λ i. Ok (record (to_interfaces s) {
      lines = take_all (line_count s) s.lines (omega arith) i;
      line_names = take_all (line_count s) s.line_names (omega arith) i;
    }))
