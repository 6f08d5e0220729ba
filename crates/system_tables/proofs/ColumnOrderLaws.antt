use Rattle.std.proofs.Common.{◌≡◌, ℕ, suc, ◌<◌, ◌==◌, not, ◌&&◌, List, [], ◌∷◌, length, Result, Ok, Err, refl, ap, arith, nat_le, codes, position, ◌/◌}
use Rattle.std.specs.Prelude.{slice_index_or}
use Rattle.std.specs.Str.{bytes_eq}
use Rattle.decimal_text.specs.Reading.{whole_of, billionths_of}
use Rattle.ra_base.specs.declared.limits.TheConstants.{BILLION, THOUSAND}
use Rattle.ra_base.specs.declared.table.TableName.{TableName}
use Rattle.system_model.specs.declared.components.Rates.{Rates}
use Rattle.system_tables.specs.declared.columns.Found.{Found}
use Rattle.system_tables.specs.declared.columns.Found.TheVariants.{Missing, At, Twice}
use Rattle.system_tables.specs.declared.columns.FoundColumn.{FoundColumn}
use Rattle.system_tables.specs.declared.faults.Cause.TheVariants.{TooMany, FieldCount, NameTwice, BothRatesZero}
use Rattle.system_tables.specs.declared.faults.Column.{Column}
use Rattle.system_tables.specs.declared.faults.Column.TheVariants.{Whole}
use Rattle.system_tables.specs.declared.faults.Place.{Place}
use Rattle.system_tables.specs.declared.faults.TableFault.{TableFault}
use Rattle.system_tables.specs.declared.fields.RateColumns.{RateColumns}
use Rattle.system_tables.specs.Columns.{found_in, field_of, or_missing, column_in}
use Rattle.system_tables.specs.Faults.{◌>>=◌, in_turn, fault_at, refuse, shape_in}
use Rattle.system_tables.specs.Fields.{number, ranged, whole_in, value_in, probability_in, share_in, rates_in, some_rate_in, name_bytes_in, name_in, zone_name_in, or_unknown, reference_in}
use Rattle.system_tables.specs.Names.{Names, is_among}
use Rattle.system_tables.specs.Records.{Row, Rows}
use Rattle.system_tables.specs.SameColumns.{StandAlike, HaveSameField, SayTheSame, AreAlike}

-- both give alike things, or the same fault
unfoldable pub Alike : {A : Type 0} → (A → A → Type 0) → Result A TableFault → Result A TableFault → Type 0
Alike R (Ok a) (Ok b) = R a b
Alike R (Err e) (Err f) = e ≡ f
Alike R _ _ = ⊥

pub bind-alike : {A B : Type 0} (R : A → A → Type 0) (S : B → B → Type 0) (r s : Result A TableFault) (f g : A → Result B TableFault)
    → Alike R r s
    → ((a b : A) → R a b → Alike S (f a) (g b))
    → Alike S (r >>= f) (s >>= g)
unfolding Alike
bind-alike R S (Ok a) (Ok b) f g h k = k a b h
bind-alike R S (Ok a) (Err e) f g h k = absurd h
bind-alike R S (Err e) (Ok b) f g h k = absurd h
bind-alike R S (Err e) (Err d) f g h k = h

pub bind-same : {A B : Type 0} (R : A → A → Type 0) (r s : Result A TableFault) (f g : A → Result B TableFault)
    → Alike R r s
    → ((a b : A) → R a b → f a ≡ g b)
    → (r >>= f) ≡ (s >>= g)
unfolding Alike
bind-same R (Ok a) (Ok b) f g h k = k a b h
bind-same R (Ok a) (Err e) f g h k = absurd h
bind-same R (Err e) (Ok b) f g h k = absurd h
bind-same {A} {B} R (Err e) (Err d) f g h k =
    let fault : TableFault → Result B TableFault = λ x. Err x in
    ap fault h

pub ok-alike : {A : Type 0} (R : A → A → Type 0) (a b : A) → R a b → Alike R (Ok a) (Ok b)
unfolding Alike
ok-alike R a b h = h

-- columns found in two headers: the same column, with the same field in rows that say the same
pub record AreColumns (p q : Found) (a b : FoundColumn) : Type 0 where
  pub column : a.column ≡ b.column
  pub field : (x y : Row) → HaveSameField p q x y → field_of a x ≡ field_of b y

or_missing-alike : (table : TableName) (column : Column) (p q : Found)
    → StandAlike p q
    → Alike (AreColumns p q) (or_missing table column p) (or_missing table column q)
unfolding Alike
or_missing-alike table column Missing Missing h = refl
or_missing-alike table column Missing (At b) h = absurd h
or_missing-alike table column Missing Twice h = absurd h
or_missing-alike table column (At a) Missing h = absurd h
or_missing-alike table column (At a) (At b) h = record { column = refl; field = λ x y e. e }
or_missing-alike table column (At a) Twice h = absurd h
or_missing-alike table column Twice Missing h = absurd h
or_missing-alike table column Twice (At b) h = absurd h
or_missing-alike table column Twice Twice h = refl

pub column-alike : (table : TableName) (column : Column) (a b : Row) (name : List ℕ)
    → StandAlike (found_in a name) (found_in b name)
    → Alike (AreColumns (found_in a name) (found_in b name)) (column_in table column a name) (column_in table column b name)
unfolding column_in
column-alike table column a b name h = or_missing-alike table column (found_in a name) (found_in b name) h

-- the next column of the definition
pub with_column : {B : Type 0} (S : B → B → Type 0) (table : TableName) (column : Column) (a b : Row) (name : List ℕ)
    (f g : FoundColumn → Result B TableFault)
    → StandAlike (found_in a name) (found_in b name)
    → ((c d : FoundColumn) → AreColumns (found_in a name) (found_in b name) c d → Alike S (f c) (g d))
    → Alike S (column_in table column a name >>= f) (column_in table column b name >>= g)
with_column S table column a b name f g h k =
    bind-alike (AreColumns (found_in a name) (found_in b name)) S (column_in table column a name) (column_in table column b name) f g
    (column-alike table column a b name h) k

-- a column with its field, in each of two rows
pub record AreSame (a b : FoundColumn) (x y : Row) : Type 0 where
  pub column : a.column ≡ b.column
  pub field : field_of a x ≡ field_of b y

pub same_in : (p q : Found) (a b : FoundColumn) (x y : Row) → AreColumns p q a b → HaveSameField p q x y → AreSame a b x y
same_in p q a b x y h e = record { column = h.column; field = h.field x y e }

pub shape-same : (place : Place) (limit count v w : ℕ) (x y : Row)
    → (length x == v) ≡ (length y == w)
    → shape_in place limit count v x ≡ shape_in place limit count w y
unfolding shape_in
shape-same place limit count v w x y h = λ i.
    refuse (nat_le limit count) (fault_at place Whole (TooMany limit)) >>= (λ _.
    refuse (not (h i)) (fault_at place Whole FieldCount))

pub whole-same : (place : Place) (a b : FoundColumn) (low most : ℕ) (x y : Row)
    → AreSame a b x y
    → whole_in place a low most x ≡ whole_in place b low most y
unfolding whole_in
whole-same place a b low most x y h = λ i.
    number place (h.column i) (whole_of (h.field i)) >>= (λ value. ranged place (h.column i) low most value)

pub value-same : (place : Place) (a b : FoundColumn) (x y : Row) → AreSame a b x y → value_in place a x ≡ value_in place b y
unfolding value_in
value-same place a b x y h = λ i. number place (h.column i) (whole_of (h.field i))

probability-same : (place : Place) (a b : FoundColumn) (x y : Row)
    → AreSame a b x y
    → probability_in place a x ≡ probability_in place b y
unfolding probability_in
probability-same place a b x y h = λ i.
    number place (h.column i) (billionths_of (h.field i)) >>= (λ value. ranged place (h.column i) 0 BILLION value)

pub share-same : (place : Place) (a b : FoundColumn) (x y : Row) → AreSame a b x y → share_in place a x ≡ share_in place b y
unfolding share_in
share-same place a b x y h = λ i.
    number place (h.column i) (billionths_of (h.field i))
    >>= (λ value. ranged place (h.column i) 1 THOUSAND (value / 1000000))

pub rates-same : (place : Place) (a b : RateColumns) (x y : Row)
    → AreSame a.failure b.failure x y
    → AreSame a.repair b.repair x y
    → rates_in place a x ≡ rates_in place b y
unfolding rates_in
rates-same place a b x y f r = λ i.
    probability-same place a.failure b.failure x y f i >>= (λ p.
    probability-same place a.repair b.repair x y r i >>= (λ q. Ok (record { f = p; r = q })))

pub some_rate-same : (place : Place) (a b : RateColumns) (x y : Row) (rates : Rates)
    → AreSame a.repair b.repair x y
    → some_rate_in place a rates ≡ some_rate_in place b rates
unfolding some_rate_in
some_rate-same place a b x y rates h = λ i.
    refuse ((rates.f == 0) && (rates.r == 0)) (fault_at place (h.column i) BothRatesZero)

pub name-same : (place : Place) (a b : FoundColumn) (above : Names) (x y : Row)
    → AreSame a b x y
    → name_in place a above x ≡ name_in place b above y
unfolding name_in
name-same place a b above x y h = λ i.
    name_bytes_in place (h.column i) (h.field i) >>= (λ _.
    refuse (is_among (h.field i) above) (fault_at place (h.column i) NameTwice) >>= (λ _. Ok (h.field i)))

pub zone_name-same : (place : Place) (a b : FoundColumn) (above : Names) (x y : Row)
    → AreSame a b x y
    → zone_name_in place a above x ≡ zone_name_in place b above y
unfolding zone_name_in
zone_name-same place a b above x y h = λ i.
    refuse (bytes_eq (h.field i) (codes "hour")) (fault_at place (h.column i) NameTwice)
    >>= (λ _. name-same place a b above x y h i)

pub reference-same : (place : Place) (a b : FoundColumn) (names : Names) (x y : Row)
    → AreSame a b x y
    → reference_in place a names x ≡ reference_in place b names y
unfolding reference_in
reference-same place a b names x y h = λ i.
    or_unknown place (h.column i) (position (bytes_eq (h.field i)) names)

-- what reads rows that say the same alike reads them in turn alike
pub in_turn-same : {A : Type 0} (one two : A → Row → Result A TableFault) (Q : Row → Row → Type 0) (s : A) (xs ys : Rows)
    → length xs ≡ length ys
    → ((k : ℕ) → k < length xs → Q (slice_index_or xs k []) (slice_index_or ys k []))
    → ((s : A) (x y : Row) → Q x y → one s x ≡ two s y)
    → in_turn one s xs ≡ in_turn two s ys
unfolding in_turn
in_turn-same one two Q s [] [] count pairs step = refl
in_turn-same one two Q s [] (y ∷ ys) count pairs step = absurd (omega (arith, count))
in_turn-same one two Q s (x ∷ xs) [] count pairs step = absurd (omega (arith, count))
in_turn-same one two Q s (x ∷ xs) (y ∷ ys) count pairs step = λ i.
    step s x y (pairs 0 (omega arith)) i >>= (λ next.
    in_turn-same one two Q next xs ys (omega (arith, count)) (λ k h. pairs (suc k) (omega arith)) step i)

-- readers of rows below two headers that read rows alike
abbrev pub ReadAlike : {C A : Type 0} → (C → ℕ → A → Row → Result A TableFault) → Names → Row → Row → C → C → Type 0
ReadAlike {C} {A} read names a b c d =
    (s : A) (x y : Row) → SayTheSame names a b x y → read c (length a) s x ≡ read d (length b) s y

pub rows-same : {C A : Type 0} (read : C → ℕ → A → Row → Result A TableFault) (names : Names) (s : A) (a b : Row) (xs ys : Rows)
    (r t : Result C TableFault)
    → AreAlike names a b xs ys
    → Alike (ReadAlike read names a b) r t
    → (r >>= (λ c. in_turn (read c (length a)) s xs)) ≡ (t >>= (λ d. in_turn (read d (length b)) s ys))
rows-same {C} {A} read names s a b xs ys r t h columns =
    bind-same (ReadAlike read names a b) r t _ _ columns
    (λ c d same. in_turn-same (read c (length a)) (read d (length b)) (SayTheSame names a b) s xs ys h.count h.rows same)
