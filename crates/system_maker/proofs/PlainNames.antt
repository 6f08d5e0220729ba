-- Names that differ from one another are told apart where tables are read.
use Rattle.std.proofs.Common.{◌≡◌, ℕ, zero, suc, ◌+◌, ◌<◌, true, false, List, [], ◌∷◌, length, get_or, take, Some, Ok, refl, sym, ap, ◌∙◌, arith, position}
use Rattle.std.specs.List.{position_or_len}
use Rattle.std.specs.Prelude.{codes}
use Rattle.std.specs.Str.{bytes_eq}
use Rattle.std.proofs.lemmas.Bool.{false_from_ne_true, lt-ltb, le-ltb, ne_eqb}
use Rattle.std.proofs.lemmas.List.{get_or-take, length-take-le}
use Rattle.std.proofs.lemmas.List.Elements.{All-from_get_or}
use Rattle.std.proofs.lemmas.List.Folds.{list_any_none}
use Rattle.std.proofs.lemmas.List.Sums.{position_or_len_is}
use Rattle.std.proofs.lemmas.Slice.Eq.{bytes_eq-Decides}
use Rattle.ra_base.specs.declared.limits.TheConstants.{MOST_NAME_BYTES}
use Rattle.ra_base.specs.declared.table.TableName.{TableName}
use Rattle.system_model.specs.System.{IsName}
use Rattle.system_tables.specs.declared.faults.Column.{Column}
use Rattle.system_tables.specs.Columns.{places_from, column_in, optional_column_in, found_column}
use Rattle.system_tables.specs.Faults.{below}
use Rattle.system_tables.specs.Fields.{name_bytes_in, name_in, zone_name_in, reference_in}
use Rattle.system_tables.specs.Names.{Names, is_among}
use Rattle.system_tables.specs.Records.{Row}

-- no two of the names are the same
pub record AreApart (names : Names) : Type 0 where
  pub same : (i k : ℕ) → i < length names → k < length names → get_or names i [] ≡ get_or names k [] → i ≡ k

differ : (x y : List ℕ) → (x ≡ y → ⊥) → bytes_eq x y ≡ false
differ x y other = false_from_ne_true (bytes_eq x y) (λ t. other ((bytes_eq-Decides x y).0 t))

equal : (x : List ℕ) → bytes_eq x x ≡ true
equal x = (bytes_eq-Decides x x).1 refl

differ_at : (names : Names) (i k : ℕ) → AreApart names → i < length names → k < length names → (i ≡ k → ⊥)
    → bytes_eq (get_or names i []) (get_or names k []) ≡ false
differ_at names i k apart below among other =
    differ (get_or names i []) (get_or names k []) (λ e. other (apart.same i k below among e))

-- a name isn't among those above it
pub not_among : (names : Names) (k : ℕ) → AreApart names → k < length names → is_among (get_or names k []) (take k names) ≡ false
not_among names k apart below =
    let size : length (take k names) ≡ k = length-take-le k names (omega arith) in
    list_any_none (bytes_eq (get_or names k [])) (take k names)
    (All-from_get_or (λ (name : List ℕ). bytes_eq (get_or names k []) name ≡ false) (take k names) [] (λ i among.
    let above : i < k = omega (arith, size) in
    rw (get_or-take k names i [] above) (differ_at names k i apart below (omega arith) (λ e. absurd (omega arith)))))

-- a name is found at its place
found_at : (names : Names) (k : ℕ) → AreApart names → k < length names → position (bytes_eq (get_or names k [])) names ≡ Some k
found_at names k apart below =
    let at : position_or_len (bytes_eq (get_or names k [])) names ≡ k =
    position_or_len_is (bytes_eq (get_or names k [])) names k [] (omega arith)
    (λ j above. differ_at names k j apart below (omega arith) (λ e. absurd (omega arith)))
    (λ _. equal (get_or names k [])) in
    rw (at, lt-ltb k (length names) below) refl

pub name_read : (table : TableName) (count : ℕ) (column : Column) (at : ℕ) (names : Names) (k : ℕ) (row : Row)
    → get_or row at [] ≡ get_or names k []
    → IsName (get_or names k [])
    → AreApart names
    → k < length names
    → name_in (below table count) (found_column column at) (take k names) row ≡ Ok (get_or names k [])
unfolding name_in name_bytes_in
name_read table count column at names k row is name apart below =
    rw (
      is,
      ne_eqb (length (get_or names k [])) 0 (λ e. absurd (omega (arith, name.some))),
      le-ltb MOST_NAME_BYTES (length (get_or names k [])) name.short,
      not_among names k apart below,
    ) refl

pub zone_name_read : (table : TableName) (count : ℕ) (column : Column) (at : ℕ) (names : Names) (k : ℕ) (row : Row)
    → get_or row at [] ≡ get_or names k []
    → IsName (get_or names k [])
    → AreApart names
    → k < length names
    → (get_or names k [] ≡ codes "hour" → ⊥)
    → zone_name_in (below table count) (found_column column at) (take k names) row ≡ Ok (get_or names k [])
unfolding zone_name_in
zone_name_read table count column at names k row is name apart below no_hour =
    rw (ap (λ (field : List ℕ). bytes_eq field (codes "hour")) is ∙ differ (get_or names k []) (codes "hour") no_hour)
    (name_read table count column at names k row is name apart below)

pub reference_read : (table : TableName) (count : ℕ) (column : Column) (at : ℕ) (names : Names) (k : ℕ) (row : Row)
    → get_or row at [] ≡ get_or names k []
    → AreApart names
    → k < length names
    → reference_in (below table count) (found_column column at) names row ≡ Ok k
unfolding reference_in
reference_read table count column at names k row is apart below = rw (is, found_at names k apart below) refl

-- ---- columns of zones

no_places : (name : List ℕ) (fields : Row) (at : ℕ)
    → ((i : ℕ) → i < length fields → bytes_eq (get_or fields i []) name ≡ false)
    → places_from at name fields ≡ []
unfolding places_from
no_places name [] at others = refl
no_places name (f ∷ fs) at others =
    rw (others 0 (omega arith)) (no_places name fs (at + 1) (λ i below. others (suc i) (omega arith)))

apart_behind : (f : List ℕ) (fs : Names) → AreApart (f ∷ fs) → AreApart fs
apart_behind f fs apart =
    record { same = λ i k a b e. let h : suc i ≡ suc k = apart.same (suc i) (suc k) (omega arith) (omega arith) e in omega arith }

one_place : (fields : Names) (k at : ℕ) → AreApart fields → k < length fields
    → places_from at (get_or fields k []) fields ≡ (at + k) ∷ []
unfolding places_from
one_place [] k at apart below = absurd (omega arith)
one_place (f ∷ fs) zero at apart below =
    let others : places_from (at + 1) f fs ≡ [] =
    no_places f fs (at + 1) (λ i among. differ_at (f ∷ fs) (suc i) 0 apart (omega arith) (omega arith) (λ e. absurd (omega arith))) in
    let same : at ≡ at + 0 = omega arith in
    rw (equal f, others) (ap (λ (n : ℕ). n ∷ []) same)
one_place (f ∷ fs) (suc k) at apart below =
    let other : bytes_eq f (get_or fs k []) ≡ false =
    differ_at (f ∷ fs) 0 (suc k) apart (omega arith) below (λ e. absurd (omega arith)) in
    let same : at + 1 + k ≡ at + suc k = omega arith in
    rw other (one_place fs k (at + 1) (apart_behind f fs apart) (omega arith) ∙ ap (λ (n : ℕ). n ∷ []) same)

-- the zones of a header are apart from its first field
abbrev pub AreNoHours : Names → Type 0
AreNoHours zones = (k : ℕ) → k < length zones → get_or zones k [] ≡ codes "hour" → ⊥

zone_place : (zones : Names) (k : ℕ) → AreApart zones → AreNoHours zones → k < length zones
    → places_from 0 (get_or zones k []) (codes "hour" ∷ zones) ≡ (k + 1) ∷ []
unfolding places_from
zone_place zones k apart others below =
    let other : bytes_eq (codes "hour") (get_or zones k []) ≡ false =
    differ (codes "hour") (get_or zones k []) (λ e. others k below (sym e)) in
    let at : 0 + 1 + k ≡ k + 1 = omega arith in
    rw other (one_place zones k (0 + 1) apart below ∙ ap (λ (n : ℕ). n ∷ []) at)

pub zone_column_read : (table : TableName) (column : Column) (zones : Names) (k : ℕ) → AreApart zones → AreNoHours zones → k < length zones
    → column_in table column (codes "hour" ∷ zones) (get_or zones k []) ≡ Ok (found_column column (k + 1))
unfolding column_in
zone_column_read table column zones k apart others below = rw (zone_place zones k apart others below) refl

pub zone_column_found : (table : TableName) (column : Column) (zones : Names) (k : ℕ) → AreApart zones → AreNoHours zones → k < length zones
    → optional_column_in table column (codes "hour" ∷ zones) (get_or zones k []) ≡ Ok (Some (found_column column (k + 1)))
unfolding optional_column_in
zone_column_found table column zones k apart others below = rw (zone_place zones k apart others below) refl

pub hour_column_read : (table : TableName) (column : Column) (zones : Names) → AreNoHours zones
    → column_in table column (codes "hour" ∷ zones) (codes "hour") ≡ Ok (found_column column 0)
unfolding column_in places_from
hour_column_read table column zones others =
    rw (no_places (codes "hour") zones (0 + 1) (λ i below. differ (get_or zones i []) (codes "hour") (others i below))) refl
