-- Fields that were written plainly are read as what was written.
use Rattle.std.proofs.Common.{◌≡◌, ℕ, zero, suc, ◌+◌, ◌-◌, ◌*◌, ◌/◌, ◌%◌, ◌^◌, ◌<◌, ◌≤◌, ◌==◌, ◌&&◌, true, false, List, [], ◌∷◌, ◌++◌, length, get_or, Ok, refl, ap, ◌∙◌, arith}
use Rattle.std.specs.Prelude.{decimal, replicate}
use Rattle.std.specs.Str.Parse.{AllDigits}
use Rattle.std.proofs.lemmas.Bool.{and_parts, and_from, and_left, le-ltb, le-leb, lt-leb, eq-eqb, ne_eqb}
use Rattle.std.proofs.lemmas.Fmt.{decimal_is_IsNumeral_wide, length-decimal-le_wide}
use Rattle.std.proofs.lemmas.List.{length-append, length-replicate}
use Rattle.std.proofs.lemmas.Str.{digit_value_digit}
use Rattle.std.proofs.lemmas.Str.Parse.{digit_from_value}
use Rattle.decimal_text.specs.Numeral.{behind_point, lowered, top, bottom}
use Rattle.decimal_text.specs.Reading.{billionths_of}
use Rattle.decimal_text.specs.DecimalText.{whole_text, padded_text, fixed_text}
use Rattle.decimal_text.proofs.Laws.{billionths_only}
use Rattle.decimal_text.proofs.TenPowers.{ten_some}
use Rattle.decimal_text.proofs.Texts.{fixed_spells, whole_again, nine_again}
use Rattle.ra_base.specs.declared.limits.TheConstants.{BILLION, THOUSAND}
use Rattle.system_model.specs.declared.components.Rates.{Rates}
use Rattle.system_model.specs.Rates.{AreRates}
use Rattle.ra_base.specs.declared.table.TableName.{TableName}
use Rattle.system_tables.specs.declared.faults.Column.{Column}
use Rattle.system_tables.specs.Columns.{found_column}
use Rattle.system_tables.specs.Faults.{below, shape_in}
use Rattle.system_tables.specs.Fields.{ranged, whole_in, value_in, probability_in, share_in, rates_in, some_rate_in}
use Rattle.system_tables.specs.Records.{Row}
use Rattle.system_maker.specs.PlainTables.{rate_text, share_text}
use Rattle.system_maker.proofs.PlainRecords.{is_plain}

-- ---- numbers are plain

pub plain_append : (xs ys : List ℕ) → is_plain xs ≡ true → is_plain ys ≡ true → is_plain (xs ++ ys) ≡ true
plain_append [] ys e f = f
plain_append (b ∷ bs) ys e f =
    let parts = and_parts _ (is_plain bs) e in
    and_from _ (is_plain (bs ++ ys)) parts.0 (plain_append bs ys parts.1 f)

digits_plain : (ds : List ℕ) → AllDigits 10 ds → is_plain ds ≡ true
digits_plain [] h = refl
digits_plain (d ∷ ds) h =
    let is = digit_value_digit d (digit_from_value d h.0) in
    let high : 46 ≤ d = omega (arith, is) in
    and_from _ (is_plain ds) (le-leb 46 d high) (digits_plain ds h.1)

zeros_plain : (n : ℕ) → is_plain (replicate n 48) ≡ true
zeros_plain zero = refl
zeros_plain (suc n) = zeros_plain n

pub whole_plain : (value : ℕ) → value < 2 ^ 64 → is_plain (whole_text value) ≡ true
whole_plain value small =
    let d = decimal_is_IsNumeral_wide value (omega arith) in
    digits_plain (decimal value) d.0.1

pub fixed_plain : (value places : ℕ) → value < 2 ^ 64 → is_plain (fixed_text value places) ≡ true
unfolding fixed_text
fixed_plain value places small =
    let whole : value / 10 ^ places ≤ value = omega (arith, ten_some places) in
    let rest : value % 10 ^ places ≤ value = omega (arith, ten_some places) in
    let behind : is_plain (padded_text (value % 10 ^ places) places) ≡ true =
    plain_append (replicate (places - length (decimal (value % 10 ^ places))) 48) (decimal (value % 10 ^ places))
    (zeros_plain (places - length (decimal (value % 10 ^ places)))) (whole_plain (value % 10 ^ places) (omega arith)) in
    plain_append (whole_text (value / 10 ^ places)) (46 ∷ padded_text (value % 10 ^ places) places)
    (whole_plain (value / 10 ^ places) (omega arith)) behind

-- ---- numbers are read again

padded_few : (rest : ℕ) → rest < 10 ^ 3 → length (padded_text rest 3) ≤ 3
padded_few rest small =
    let digits = length-decimal-le_wide 3 rest (omega arith) small (omega arith) in
    let all : length (padded_text rest 3) ≡ 3 - length (decimal rest) + length (decimal rest) =
    length-append (replicate (3 - length (decimal rest)) 48) (decimal rest)
    ∙ ap (λ (k : ℕ). k + length (decimal rest)) (length-replicate (3 - length (decimal rest)) 48) in
    omega arith

three_length : (value : ℕ) → value ≤ 1000 → (0 < length (fixed_text value 3)) × (length (fixed_text value 3) ≤ 40)
unfolding fixed_text
three_length value le =
    let whole : value / 10 ^ 3 ≤ 1 = omega arith in
    let rest : value % 10 ^ 3 < 10 ^ 3 = omega arith in
    let front = length-decimal-le_wide 1 (value / 10 ^ 3) (omega arith) (omega arith) (omega arith) in
    let behind = padded_few (value % 10 ^ 3) rest in
    let all : length (fixed_text value 3) ≡ length (whole_text (value / 10 ^ 3)) + suc (length (padded_text (value % 10 ^ 3) 3)) =
    length-append (whole_text (value / 10 ^ 3)) (46 ∷ padded_text (value % 10 ^ 3) 3) in
    (omega arith, omega arith)

three_worth : (value b t : ℕ) → value * b ≡ 10 ^ 3 * t → value * 1000000 * b ≡ 10 ^ 9 * t
three_worth value b t e =
    let h : value * 1000000 * b ≡ 1000000 * (value * b) = omega arith in
    h ∙ ap (λ (k : ℕ). 1000000 * k) e ∙ omega arith

three_again : (value : ℕ) → value ≤ 1000 → billionths_of (fixed_text value 3) ≡ Ok (value * 1000000)
three_again value le =
    let (n, sp, len, worth) = fixed_spells value 3 (omega arith) (omega arith) in
    let few = three_length value le in
    let some = ten_some (length (behind_point n) + lowered n.exponent) in
    let is : value * 1000000 * bottom n ≡ 10 ^ 9 * top n = three_worth value (bottom n) (top n) worth in
    billionths_only (fixed_text value 3) (Ok (value * 1000000)) (
      n,
      record { length = record { some = few.0; few = few.1 }; spells = sp },
      record { at_least = omega (arith, is); less_than_more = omega (arith, is) },
      omega arith,
    )

ranged_is : (table : TableName) (count : ℕ) (column : Column) (low most value : ℕ) → low ≤ value → value ≤ most
    → ranged (below table count) column low most value ≡ Ok value
unfolding ranged
ranged_is table count column low most value at_least at_most =
    rw (le-ltb value low at_least, le-ltb most value at_most) refl

pub whole_read : (table : TableName) (count : ℕ) (column : Column) (at low most value : ℕ) (row : Row)
    → get_or row at [] ≡ whole_text value
    → low ≤ value
    → value ≤ most
    → value < 2 ^ 32
    → whole_in (below table count) (found_column column at) low most row ≡ Ok value
unfolding whole_in
whole_read table count column at low most value row is at_least at_most small =
    rw (is, whole_again value (omega arith)) (ranged_is table count column low most value at_least at_most)

pub value_read : (table : TableName) (count : ℕ) (column : Column) (at value : ℕ) (row : Row)
    → get_or row at [] ≡ whole_text value
    → value < 2 ^ 32
    → value_in (below table count) (found_column column at) row ≡ Ok value
unfolding value_in
value_read table count column at value row is small = rw (is, whole_again value (omega arith)) refl

probability_read : (table : TableName) (count : ℕ) (column : Column) (at value : ℕ) (row : Row)
    → get_or row at [] ≡ rate_text value
    → value ≤ BILLION
    → probability_in (below table count) (found_column column at) row ≡ Ok value
unfolding probability_in
probability_read table count column at value row is most =
    rw (is, nine_again value (omega arith)) (ranged_is table count column 0 BILLION value (omega arith) most)

pub share_read : (table : TableName) (count : ℕ) (column : Column) (at value : ℕ) (row : Row)
    → get_or row at [] ≡ share_text value
    → 1 ≤ value
    → value ≤ THOUSAND
    → share_in (below table count) (found_column column at) row ≡ Ok value
unfolding share_in
share_read table count column at value row is some most =
    let back : value * 1000000 / 1000000 ≡ value = omega arith in
    rw (is, three_again value most, back) (ranged_is table count column 1 THOUSAND value some most)

pub rates_read : (table : TableName) (count : ℕ) (failure repair : Column) (at behind : ℕ) (rates : Rates) (row : Row)
    → get_or row at [] ≡ rate_text rates.f
    → get_or row behind [] ≡ rate_text rates.r
    → AreRates rates
    → rates_in (below table count) (record { failure = found_column failure at; repair = found_column repair behind }) row ≡ Ok rates
unfolding rates_in
rates_read table count failure repair at behind rates row f r are =
    rw (
      probability_read table count failure at rates.f row f are.failure,
      probability_read table count repair behind rates.r row r are.repair,
    ) refl

both_zero : (f r : ℕ) → 0 < f + r → ((f == 0) && (r == 0)) ≡ false
both_zero zero r some = ne_eqb r 0 (λ e. absurd (omega arith))
both_zero (suc f) r some = and_left _ _ (ne_eqb (suc f) 0 (λ e. absurd (omega arith)))

pub some_rate_read : (table : TableName) (count : ℕ) (failure repair : Column) (at behind : ℕ) (rates : Rates) → AreRates rates
    → some_rate_in (below table count) (record { failure = found_column failure at; repair = found_column repair behind }) rates ≡ Ok tt
unfolding some_rate_in
some_rate_read table count failure repair at behind rates are = rw (both_zero rates.f rates.r are.some) refl

pub shape_read : (table : TableName) (above limit count width : ℕ) (row : Row)
    → count < limit
    → length row ≡ width
    → shape_in (below table above) limit count width row ≡ Ok tt
unfolding shape_in
shape_read table above limit count width row room size = rw (lt-leb limit count room, eq-eqb (length row) width size) refl
