use Rattle.std.proofs.Common.{◌≡◌, ℕ, suc, ◌+◌, ◌==◌, Bool, true, false, List, [], ◌∷◌, ◌++◌, length, All, Option, None, Some, Result, Ok, Err, refl, sym, ap, ◌∙◌, subst, arith, codes, sum, length-append}
use Rattle.ra_base.specs.declared.limits.TheConstants.{MOST_POOLED_MW}
use Rattle.ra_base.specs.declared.table.TableName.{TableName}
use Rattle.system_tables.specs.declared.columns.Found.{Found}
use Rattle.system_tables.specs.declared.columns.Found.TheVariants.{Missing, At, Twice}
use Rattle.system_tables.specs.declared.columns.FoundColumn.{FoundColumn}
use Rattle.system_tables.specs.declared.faults.Column.{Column}
use Rattle.system_tables.specs.declared.faults.Column.TheVariants.{Fixed, Zone}
use Rattle.system_tables.specs.declared.faults.Place.{Place}
use Rattle.system_tables.specs.declared.faults.TableFault.{TableFault}
use Rattle.system_tables.specs.Columns.{found_in, or_none, column_in, optional_column_in}
use Rattle.system_tables.specs.Faults.{◌>>=◌, in_turn, below}
use Rattle.system_tables.specs.Hours.{ZoneColumns, HoursAbove, hours_above, amount_column_in, next_column_in, hour_order_in, amount_in, next_amount_in, row_within_in, hour_in, hour_rows_in}
use Rattle.system_tables.specs.Names.{Names}
use Rattle.system_tables.specs.Records.{Row, Rows}
use Rattle.system_tables.specs.SameColumns.{StandAlike, HaveSameField, SayTheSame, AreAlike}
use Rattle.system_tables.proofs.ColumnOrderLaws.{Alike, AreColumns, AreSame, with_column, column-alike, ok-alike, bind-alike, bind-same, in_turn-same, same_in, shape-same, value-same, whole-same}

abbrev Amounts : Type 0
Amounts = List ℕ

bind-ok : {A : Type 0} (r : Result A TableFault) → (r >>= (λ a. Ok a)) ≡ r
bind-ok (Ok a) = refl
bind-ok (Err e) = refl

bind-more : {A B C : Type 0} (r : Result A TableFault) (f : A → Result C TableFault) (g : A → Result B TableFault) (k : B → Result C TableFault)
    → ((a : A) → f a ≡ (g a >>= k))
    → (r >>= f) ≡ ((r >>= g) >>= k)
bind-more (Ok a) f g k h = h a
bind-more (Err e) f g k h = refl

-- one item more
in_turn-more : {A B : Type 0} (one : A → B → Result A TableFault) (s : A) (items : List B) (item : B)
    → in_turn one s (items ++ item ∷ []) ≡ (in_turn one s items >>= (λ t. one t item))
unfolding in_turn
in_turn-more one s [] item = bind-ok (one s item)
in_turn-more one s (x ∷ xs) item =
    bind-more (one s x) _ _ _ (λ n. in_turn-more one n xs item)

-- columns that give the same amount in rows that say the same
abbrev AmountAlike : (Row → Row → Type 0) → Option FoundColumn → Option FoundColumn → Type 0
AmountAlike Q c d = (place : Place) (x y : Row) → Q x y → amount_in place x c ≡ amount_in place y d

-- the same of the columns of several zones
record AmountsAlike (Q : Row → Row → Type 0) (cs ds : ZoneColumns) : Type 0 where
  size : length cs ≡ length ds
  amounts : (place : Place) (x y : Row) → Q x y → (before : Amounts)
      → in_turn (next_amount_in place x) before cs ≡ in_turn (next_amount_in place y) before ds

next_amount-same : (Q : Row → Row → Type 0) (c d : Option FoundColumn) (place : Place) (x y : Row) (before : Amounts)
    → AmountAlike Q c d
    → Q x y
    → next_amount_in place x before c ≡ next_amount_in place y before d
unfolding next_amount_in
next_amount-same Q c d place x y before h q = λ i. h place x y q i >>= (λ a. Ok (before ++ a ∷ []))

amounts-more : (Q : Row → Row → Type 0) (cs ds : ZoneColumns) (c d : Option FoundColumn)
    → AmountsAlike Q cs ds
    → AmountAlike Q c d
    → AmountsAlike Q (cs ++ c ∷ []) (ds ++ d ∷ [])
amounts-more Q cs ds c d h e =
    record {
      size = omega (arith, h.size, length-append cs (c ∷ []), length-append ds (d ∷ []));
      amounts = λ place x y q before.
          in_turn-more (next_amount_in place x) before cs c
          ∙ (λ i. h.amounts place x y q before i >>= (λ t. next_amount-same Q c d place x y t e q i))
          ∙ sym (in_turn-more (next_amount_in place y) before ds d);
    }

some-alike : (Q : Row → Row → Type 0) (p q : Found) (c d : FoundColumn)
    → AreColumns p q c d
    → ((x y : Row) → Q x y → HaveSameField p q x y)
    → AmountAlike Q (Some c) (Some d)
unfolding amount_in
some-alike Q p q c d h say place x y e =
    whole-same place c d 0 MOST_POOLED_MW x y (same_in p q c d x y h (say x y e))

none-alike : (Q : Row → Row → Type 0) → AmountAlike Q None None
unfolding amount_in
none-alike Q place x y e = refl

or_none-alike : (Q : Row → Row → Type 0) (table : TableName) (column : Column) (p q : Found)
    → StandAlike p q
    → ((x y : Row) → Q x y → HaveSameField p q x y)
    → Alike (AmountAlike Q) (or_none table column p) (or_none table column q)
unfolding Alike
or_none-alike Q table column Missing Missing h say = none-alike Q
or_none-alike Q table column Missing (At b) h say = absurd h
or_none-alike Q table column Missing Twice h say = absurd h
or_none-alike Q table column (At a) Missing h say = absurd h
or_none-alike Q table column (At a) (At b) h say =
    some-alike Q (At a) (At b) _ _ (record { column = refl; field = λ x y e. e }) say
or_none-alike Q table column (At a) Twice h say = absurd h
or_none-alike Q table column Twice Missing h say = absurd h
or_none-alike Q table column Twice (At b) h say = absurd h
or_none-alike Q table column Twice Twice h say = refl

optional-alike : (Q : Row → Row → Type 0) (table : TableName) (column : Column) (a b : Row) (name : List ℕ)
    → StandAlike (found_in a name) (found_in b name)
    → ((x y : Row) → Q x y → HaveSameField (found_in a name) (found_in b name) x y)
    → Alike (AmountAlike Q) (optional_column_in table column a name) (optional_column_in table column b name)
unfolding optional_column_in
optional-alike Q table column a b name h say = or_none-alike Q table column (found_in a name) (found_in b name) h say

amount_column-alike : (Q : Row → Row → Type 0) (required : Bool) (table : TableName) (column : Column) (a b : Row) (name : List ℕ)
    → StandAlike (found_in a name) (found_in b name)
    → ((x y : Row) → Q x y → HaveSameField (found_in a name) (found_in b name) x y)
    → Alike (AmountAlike Q) (amount_column_in required table column a name) (amount_column_in required table column b name)
unfolding amount_column_in
amount_column-alike Q true table column a b name h say =
    with_column (AmountAlike Q) table column a b name _ _ h (λ c d same.
    ok-alike (AmountAlike Q) _ _ (some-alike Q (found_in a name) (found_in b name) c d same say))
amount_column-alike Q false table column a b name h say = optional-alike Q table column a b name h say

next_column-alike : (Q : Row → Row → Type 0) (required : Bool) (table : TableName) (a b : Row) (cs ds : ZoneColumns) (name : List ℕ)
    → StandAlike (found_in a name) (found_in b name)
    → ((x y : Row) → Q x y → HaveSameField (found_in a name) (found_in b name) x y)
    → AmountsAlike Q cs ds
    → Alike (AmountsAlike Q) (next_column_in required table a cs name) (next_column_in required table b ds name)
unfolding next_column_in
next_column-alike Q required table a b cs ds name h say same =
    let column : Zone (length cs) ≡ Zone (length ds) = ap (λ (n : ℕ). Zone n) same.size in
    bind-alike (AmountAlike Q) (AmountsAlike Q)
    (amount_column_in required table (Zone (length cs)) a name) (amount_column_in required table (Zone (length ds)) b name) _ _
    (subst (λ (zone : Column). Alike (AmountAlike Q) (amount_column_in required table (Zone (length cs)) a name) (amount_column_in required table zone b name))
    column (amount_column-alike Q required table (Zone (length cs)) a b name h say))
    (λ c d e. ok-alike (AmountsAlike Q) _ _ (amounts-more Q cs ds c d same e))

columns-alike : (Q : Row → Row → Type 0) (required : Bool) (table : TableName) (a b : Row) (cs ds : ZoneColumns) (zones : Names)
    → All (λ name. StandAlike (found_in a name) (found_in b name)) zones
    → ((x y : Row) → Q x y → All (λ name. HaveSameField (found_in a name) (found_in b name) x y) zones)
    → AmountsAlike Q cs ds
    → Alike (AmountsAlike Q) (in_turn (next_column_in required table a) cs zones) (in_turn (next_column_in required table b) ds zones)
unfolding in_turn
columns-alike Q required table a b cs ds [] h say same = ok-alike (AmountsAlike Q) cs ds same
columns-alike Q required table a b cs ds (name ∷ names) h say same =
    bind-alike (AmountsAlike Q) (AmountsAlike Q)
    (next_column_in required table a cs name) (next_column_in required table b ds name) _ _
    (next_column-alike Q required table a b cs ds name (h 0 [] (omega arith)) (λ x y q. say x y q 0 [] (omega arith)) same)
    (λ es fs more.
    columns-alike Q required table a b es fs names (λ k d below. h (suc k) d (omega arith))
    (λ x y q k d below. say x y q (suc k) d (omega arith)) more)

hour-same : (Q : Row → Row → Type 0) (table : TableName) (limit : ℕ) (c d : FoundColumn) (cs ds : ZoneColumns) (v w : ℕ) (s : HoursAbove) (x y : Row)
    → (length x == v) ≡ (length y == w)
    → AreSame c d x y
    → AmountsAlike Q cs ds
    → Q x y
    → hour_in table limit c cs v s x ≡ hour_in table limit d ds w s y
unfolding hour_in
hour-same Q table limit c d cs ds v w s x y shape hour columns q =
    let place : Place = below table (length s.amounts) in
    λ i.
    shape-same place limit (length s.amounts) v w x y shape i >>= (λ _.
    value-same place c d x y hour i >>= (λ h.
    hour_order_in place (hour.column i) s.wanted h >>= (λ _.
    columns.amounts place x y q [] i >>= (λ amounts.
    row_within_in place (sum amounts) >>= (λ _.
    Ok (hours_above (Some (h + 1)) (s.amounts ++ amounts ∷ [])))))))

none-same : (Q : Row → Row → Type 0) (place : Place) (x y : Row) → Q x y → (before : Amounts)
    → in_turn (next_amount_in place x) before [] ≡ in_turn (next_amount_in place y) before []
unfolding in_turn
none-same Q place x y e before = refl

pub hours-same : (required : Bool) (table : TableName) (limit : ℕ) (zones : Names) (a b : Row) (xs ys : Rows)
    → AreAlike (codes "hour" ∷ zones) a b xs ys
    → hour_rows_in required table limit zones a xs ≡ hour_rows_in required table limit zones b ys
unfolding hour_rows_in
hours-same required table limit zones a b xs ys h =
    let names : Names = codes "hour" ∷ zones in
    let Q : Row → Row → Type 0 = SayTheSame names a b in
    let p : Found = found_in a (codes "hour") in
    let q : Found = found_in b (codes "hour") in
    bind-same (AreColumns p q) (column_in table (Fixed 0) a (codes "hour")) (column_in table (Fixed 0) b (codes "hour")) _ _
    (column-alike table (Fixed 0) a b (codes "hour") (h.headers 0 [] (omega arith)))
    (λ c d hour.
    bind-same (AmountsAlike Q) (in_turn (next_column_in required table a) [] zones) (in_turn (next_column_in required table b) [] zones) _ _
    (columns-alike Q required table a b [] [] zones (λ k e below. h.headers (suc k) e (omega arith))
    (λ x y same k e below. same.fields (suc k) e (omega arith)) (record { size = refl; amounts = none-same Q }))
    (λ cs ds columns.
    in_turn-same (hour_in table limit c cs (length a)) (hour_in table limit d ds (length b)) Q (hours_above None []) xs ys h.count h.rows
    (λ s x y same.
    hour-same Q table limit c d cs ds (length a) (length b) s x y same.full
    (same_in p q c d x y hour (same.fields 0 [] (omega arith))) columns same)))
