-- Plain text is read as the records that it was written from.
use Rattle.std.proofs.Common.{◌≡◌, ℕ, zero, suc, ◌+◌, ◌<◌, ◌≤◌, ◌==◌, ◌&&◌, Bool, true, false, List, [], ◌∷◌, ◌++◌, length, map, Some, refl, sym, ap, ◌∙◌, append_assoc, arith, nat_le}
use Rattle.std.specs.List.{range_with_len, flat_map, list_any}
use Rattle.std.proofs.lemmas.Bool.{and_parts, and_right, or_from, leb-true, ne_eqb}
use Rattle.std.proofs.lemmas.List.{take_all}
use Rattle.csv.specs.Machine.{next_record}
use Rattle.csv.specs.Reading.{default_config, records, records_from, strip_bom}
use Rattle.csv.specs.Writing.{default_writer, field_text, fields_text, is_blank, needs_byte, row_text}
use Rattle.csv.specs.declared.parser.State.TheVariants as st
use Rattle.csv.proofs.RoundTrip.{read-write}
use Rattle.system_tables.specs.Records.{Row, Rows, without_front, spaces_at, without_spaces, records_of}
use Rattle.system_tables.proofs.RecordLaws.{records-next, records-none}
use Rattle.system_maker.specs.PlainTables.{next_field, record_text, table_text}

-- a field without a byte below 46: commas, quotes, spaces and line ends are below
abbrev pub is_plain : List ℕ → Bool
is_plain [] = true
is_plain (b ∷ bs) = nat_le 46 b && is_plain bs

-- all fields are plain
abbrev pub are_plain : Row → Bool
are_plain [] = true
are_plain (field ∷ fields) = is_plain field && are_plain fields

-- the byte, and those behind it
plain_byte : (b : ℕ) (bs : List ℕ) → is_plain (b ∷ bs) ≡ true → (46 ≤ b) × (is_plain bs ≡ true)
plain_byte b bs e = let both = and_parts (nat_le 46 b) (is_plain bs) e in (leb-true 46 b both.0, both.1)

other : (b c : ℕ) → 46 ≤ b → c < 46 → (b == c) ≡ false
other b c high low = ne_eqb b c (λ e. absurd (omega arith))

unmarked_byte : (b : ℕ) → 46 ≤ b → needs_byte default_writer b ≡ false
unmarked_byte b high =
    rw (other b 44 high (omega arith), other b 34 high (omega arith), other b 13 high (omega arith), other b 10 high (omega arith)) refl

unmarked : (field : List ℕ) → is_plain field ≡ true → list_any (needs_byte default_writer) field ≡ false
unmarked [] e = refl
unmarked (b ∷ bs) e =
    let parts = plain_byte b bs e in
    or_from (needs_byte default_writer b) (list_any (needs_byte default_writer) bs) (unmarked_byte b parts.0) (unmarked bs parts.1)

plain_field : (field : List ℕ) → is_plain field ≡ true → field_text default_writer field ≡ field
plain_field field e = rw (unmarked field e) refl

plain_fields : (fields : Row) → are_plain fields ≡ true → fields_text default_writer fields ≡ flat_map next_field fields
unfolding fields_text
plain_fields [] e = refl
plain_fields (f ∷ fs) e =
    let parts = and_parts (is_plain f) (are_plain fs) e in
    rw (plain_field f parts.0, plain_fields fs parts.1) refl

-- the first field of the record has a byte
abbrev pub HasByte : Row → Type 0
HasByte [] = ⊥
HasByte (field ∷ fields) = 0 < length field

-- a record whose fields are plain, and which has a byte before its end
pub record IsPlainRow (row : Row) : Type 0 where
  pub plain : are_plain row ≡ true
  pub some : HasByte row

not_blank : (first : List ℕ) (rest : Row) → is_plain first ≡ true → 0 < length first → is_blank default_writer (first ∷ rest) ≡ false
unfolding is_blank
not_blank first [] e some = rw (plain_field first e) (ne_eqb (length first) 0 (λ z. absurd (omega arith)))
not_blank first (next ∷ rest) e some = refl

-- a plain record is written as `csv` writes it
written : (row : Row) → IsPlainRow row → row_text default_writer row ≡ record_text row
written [] p = absurd p.some
written (first ∷ rest) p =
    let parts = and_parts (is_plain first) (are_plain rest) p.plain in
    rw (not_blank first rest parts.0 p.some, plain_field first parts.0, plain_fields rest parts.1) refl

-- a record and what stands behind it
next_plain : (row : Row) (tail : List ℕ) → IsPlainRow row
    → next_record default_config st.StartRecord [] [] (record_text row ++ tail) ≡ Some (row, st.StartRecord, tail)
next_plain [] tail p = absurd p.some
next_plain (first ∷ rest) tail p =
    ap (λ (text : List ℕ). next_record default_config st.StartRecord [] [] (text ++ tail)) (sym (written (first ∷ rest) p))
    ∙ read-write (first ∷ rest) tail

abbrev all_records : List ℕ → Rows
all_records text = records_from default_config (length text + 1) st.StartRecord text

one_more : (row : Row) (tail : List ℕ) → IsPlainRow row → all_records (record_text row ++ tail) ≡ row ∷ all_records tail
one_more row tail p =
    records-next st.StartRecord (record_text row ++ tail) (row, st.StartRecord, tail) refl (next_plain row tail p)

no_more : all_records [] ≡ []
unfolding next_record
no_more = records-none st.StartRecord [] refl

rows_read : (row : ℕ → Row) (a n : ℕ) → ((k : ℕ) → k < a + n → IsPlainRow (row k))
    → all_records (flat_map (λ k. record_text (row k)) (range_with_len a n)) ≡ map row (range_with_len a n)
rows_read row a zero plain = no_more
rows_read row a (suc n) plain =
    one_more (row a) (flat_map (λ k. record_text (row k)) (range_with_len (a + 1) n)) (plain a (omega arith))
    ∙ ap (λ (rows : Rows). row a ∷ rows) (rows_read row (a + 1) n (λ k below. plain k (omega arith)))

-- ---- spaces

front_kept : (field : List ℕ) → is_plain field ≡ true → without_front field ≡ field
unfolding without_front
front_kept [] e = refl
front_kept (b ∷ bs) e = rw (other b 32 (plain_byte b bs e).0 (omega arith)) refl

no_spaces : (field : List ℕ) → is_plain field ≡ true → spaces_at field ≡ length field
unfolding spaces_at
no_spaces [] e = refl
no_spaces (b ∷ bs) e =
    let parts = plain_byte b bs e in
    let space : (b == 32) ≡ false = other b 32 parts.0 (omega arith) in
    let later : spaces_at bs ≡ length bs = no_spaces bs parts.1 in
    rw (and_right (spaces_at bs == 0) (b == 32) space) (omega (arith, later))

trimmed : (field : List ℕ) → is_plain field ≡ true → without_spaces field ≡ field
trimmed field e =
    rw (front_kept field e, no_spaces field e) (take_all (length field) field (omega arith))

row_trimmed : (row : Row) → are_plain row ≡ true → map without_spaces row ≡ row
row_trimmed [] e = refl
row_trimmed (f ∷ fs) e =
    let parts = and_parts (is_plain f) (are_plain fs) e in
    rw (trimmed f parts.0, row_trimmed fs parts.1) refl

rows_trimmed : (row : ℕ → Row) (a n : ℕ) → ((k : ℕ) → k < a + n → IsPlainRow (row k))
    → map (map without_spaces) (map row (range_with_len a n)) ≡ map row (range_with_len a n)
rows_trimmed row a zero plain = refl
rows_trimmed row a (suc n) plain =
    rw (row_trimmed (row a) (plain a (omega arith)).plain, rows_trimmed row (a + 1) n (λ k below. plain k (omega arith))) refl

-- ---- a table

-- the bytes of a table whose first field can't be taken for a byte order mark
abbrev pub IsNoMark : List ℕ → Type 0
IsNoMark first = (rest : List ℕ) → strip_bom (first ++ rest) ≡ first ++ rest

first_apart : (first : List ℕ) (further : Row) (tail : List ℕ)
    → record_text (first ∷ further) ++ tail ≡ first ++ (flat_map next_field further ++ (10 ∷ [] ++ tail))
first_apart first further tail = simp append_assoc

-- a plain table is read as its header and its rows
pub table_read : (first : List ℕ) (further : Row) (row : ℕ → Row) (n : ℕ)
    → IsNoMark first
    → IsPlainRow (first ∷ further)
    → ((k : ℕ) → k < n → IsPlainRow (row k))
    → records_of (table_text (first ∷ further) row n) ≡ (first ∷ further) ∷ map row (range_with_len 0 n)
table_read first further row n unmarked_first plain_header plain_rows =
    let rows : List ℕ = flat_map (λ k. record_text (row k)) (range_with_len 0 n) in
    let text : List ℕ = record_text (first ∷ further) ++ rows in
    let rest : List ℕ = flat_map next_field further ++ (10 ∷ [] ++ rows) in
    let apart : text ≡ first ++ rest = first_apart first further rows in
    let unmarked_text : strip_bom text ≡ text = ap strip_bom apart ∙ unmarked_first rest ∙ sym apart in
    let all : all_records text ≡ (first ∷ further) ∷ map row (range_with_len 0 n) =
    one_more (first ∷ further) rows plain_header
    ∙ ap (λ (rs : Rows). (first ∷ further) ∷ rs) (rows_read row 0 n (λ k below. plain_rows k (omega arith))) in
    ap (λ (t : List ℕ). map (map without_spaces) (records default_config t)) (ap strip_bom unmarked_text ∙ unmarked_text)
    ∙ ap (map (map without_spaces)) all
    ∙ rw (row_trimmed (first ∷ further) plain_header.plain, rows_trimmed row 0 n (λ k below. plain_rows k (omega arith))) refl
