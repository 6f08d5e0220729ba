use Rattle.std.proofs.Common.{◌≡◌, ℕ, ◌+◌, nat_lt, true, false, List, [], ◌∷◌, length, Option, None, Some, Result, Ok, Err, refl, sym, ap, ◌∙◌, subst, codes}
use Rattle.ra_base.specs.declared.table.TableBytes.{TableBytes}
use Rattle.ra_base.specs.declared.limits.TheConstants.{MOST_HOURS, MOST_INTERFACES, MOST_LINES, MOST_POOLED_MW, MOST_STORAGES, MOST_UNITS}
use Rattle.ra_base.specs.declared.table.TableName.{TableName}
use Rattle.ra_base.specs.declared.table.TableName.TheVariants.{Zones, Units, Interfaces, Lines, Storages, Load, Variable}
use Rattle.system_model.specs.Components.{pooled_capacity, pooled_charge, pooled_discharge}
use Rattle.system_model.specs.System.{SystemParts, no_parts, unit_count, interface_count, line_count, storage_count}
use Rattle.system_tables.specs.declared.faults.Cause.TheVariants.{OutOfRange}
use Rattle.system_tables.specs.declared.faults.Place.{Place}
use Rattle.system_tables.specs.declared.faults.TableFault.{TableFault}
use Rattle.system_tables.specs.declared.units.UnitColumns.{UnitColumns}
use Rattle.system_tables.specs.declared.interfaces.InterfaceColumns.{InterfaceColumns}
use Rattle.system_tables.specs.declared.lines.LineColumns.{LineColumns}
use Rattle.system_tables.specs.declared.storages.StorageColumns.{StorageColumns}
use Rattle.system_tables.specs.Faults.{◌>>=◌, below, fault_at, refuse, shape_in, in_turn, table_in}
use Rattle.system_tables.specs.Fields.{name_in}
use Rattle.system_tables.specs.Names.{Names}
use Rattle.system_tables.specs.Records.{Row, Rows, records_of}
use Rattle.system_tables.specs.Zones.{with_zones, zone_rows_in}
use Rattle.system_tables.specs.Units.{with_units, unit_columns_in, unit_of, with_unit, unit_in, unit_rows_in}
use Rattle.system_tables.specs.Interfaces.{with_interfaces, interface_columns_in, interface_of, with_interface, interface_in, interface_rows_in}
use Rattle.system_tables.specs.Lines.{with_lines, line_columns_in, line_of, with_line, line_in, line_rows_in}
use Rattle.system_tables.specs.Storages.{with_storages, storage_columns_in, storage_of, with_storage, storage_in, storage_rows_in}
use Rattle.system_tables.specs.Hours.{with_hours, amounts_in, variables_in, hour_rows_in, some_hour_in, all_hours_in, hours_of}
use Rattle.system_tables.specs.SameColumns.{AreAlike, AreRecordsAlike, AreTablesAlike, HaveSameColumns, zone_headings, unit_headings, interface_headings, line_headings, storage_headings}
use Rattle.system_tables.specs.Tables.{where_there, bytes_of, system_of, records_in}
use Rattle.system_tables.proofs.OutcomeLaws.{one_outcome, same_records}
use Rattle.system_tables.proofs.TableOrderLaws.{zones-same, units-same, interfaces-same, lines-same, storages-same}
use Rattle.system_tables.proofs.HourOrderLaws.{hours-same}

abbrev Outcome : Type 0
Outcome = Result SystemParts TableFault

-- what is read has these zones
unfoldable HasZones : Names → Outcome → Type 0
HasZones zones (Ok s) = s.zone_names ≡ zones
HasZones zones (Err e) = Unit {0}

zones-ok : (zones : Names) (s : SystemParts) → s.zone_names ≡ zones → HasZones zones (Ok s)
unfolding HasZones
zones-ok zones s e = e

zones-bind : {B : Type 0} (zones : Names) (r : Result B TableFault) (f : B → Outcome)
    → ((b : B) → HasZones zones (f b))
    → HasZones zones (r >>= f)
unfolding HasZones
zones-bind zones (Ok b) f h = h b
zones-bind zones (Err e) f h = tt

zones-then : (zones : Names) (r : Outcome) (f : SystemParts → Outcome)
    → HasZones zones r
    → ((s : SystemParts) → s.zone_names ≡ zones → HasZones zones (f s))
    → HasZones zones (r >>= f)
unfolding HasZones
zones-then zones (Ok s) f e h = h s e
zones-then zones (Err e) f h k = tt

zones-in_turn : (zones : Names) (one : SystemParts → Row → Outcome) (s : SystemParts) (rows : Rows)
    → s.zone_names ≡ zones
    → ((s : SystemParts) (row : Row) → s.zone_names ≡ zones → HasZones zones (one s row))
    → HasZones zones (in_turn one s rows)
unfolding in_turn
zones-in_turn zones one s [] e step = zones-ok zones s e
zones-in_turn zones one s (row ∷ rows) e step =
    zones-then zones (one s row) _ (step s row e) (λ t h. zones-in_turn zones one t rows h step)

unit-keeps : (zones : Names) (c : UnitColumns) (w : ℕ) (s : SystemParts) (row : Row)
    → s.zone_names ≡ zones
    → HasZones zones (unit_in c w s row)
unfolding unit_in
unit-keeps zones c w s row e =
    let place : Place = below Units (unit_count s) in
    zones-bind zones (shape_in place MOST_UNITS (unit_count s) w row) _ (λ _.
    zones-bind zones (name_in place c.name s.unit_names row) _ (λ n.
    zones-bind zones (unit_of place c s.zone_names row) _ (λ part.
    zones-bind zones (refuse (nat_lt MOST_POOLED_MW (pooled_capacity s.units + part.capacity))
    (fault_at place c.capacity.column (OutOfRange (pooled_capacity s.units + part.capacity) MOST_POOLED_MW))) _ (λ _.
    zones-ok zones (with_unit s n part) e))))

units-keep : (zones : Names) (s : SystemParts) (header : Row) (rows : Rows)
    → s.zone_names ≡ zones
    → HasZones zones (unit_rows_in s header rows)
unfolding unit_rows_in
units-keep zones s header rows e =
    zones-bind zones (unit_columns_in header) _ (λ c. zones-in_turn zones (unit_in c (length header)) s rows e (unit-keeps zones c (length header)))

interface-keeps : (zones : Names) (c : InterfaceColumns) (w : ℕ) (s : SystemParts) (row : Row)
    → s.zone_names ≡ zones
    → HasZones zones (interface_in c w s row)
unfolding interface_in
interface-keeps zones c w s row e =
    let place : Place = below Interfaces (interface_count s) in
    zones-bind zones (shape_in place MOST_INTERFACES (interface_count s) w row) _ (λ _.
    zones-bind zones (name_in place c.name s.interface_names row) _ (λ n.
    zones-bind zones (interface_of place c s.zone_names row) _ (λ part.
    zones-ok zones (with_interface s n part) e)))

interfaces-keep : (zones : Names) (s : SystemParts) (header : Row) (rows : Rows)
    → s.zone_names ≡ zones
    → HasZones zones (interface_rows_in s header rows)
unfolding interface_rows_in
interfaces-keep zones s header rows e =
    zones-bind zones (interface_columns_in header) _ (λ c. zones-in_turn zones (interface_in c (length header)) s rows e (interface-keeps zones c (length header)))

line-keeps : (zones : Names) (c : LineColumns) (w : ℕ) (s : SystemParts) (row : Row)
    → s.zone_names ≡ zones
    → HasZones zones (line_in c w s row)
unfolding line_in
line-keeps zones c w s row e =
    let place : Place = below Lines (line_count s) in
    zones-bind zones (shape_in place MOST_LINES (line_count s) w row) _ (λ _.
    zones-bind zones (name_in place c.name s.line_names row) _ (λ n.
    zones-bind zones (line_of place c s.interface_names row) _ (λ part.
    zones-ok zones (with_line s n part) e)))

lines-keep : (zones : Names) (s : SystemParts) (header : Row) (rows : Rows)
    → s.zone_names ≡ zones
    → HasZones zones (line_rows_in s header rows)
unfolding line_rows_in
lines-keep zones s header rows e =
    zones-bind zones (line_columns_in header) _ (λ c. zones-in_turn zones (line_in c (length header)) s rows e (line-keeps zones c (length header)))

storage-keeps : (zones : Names) (c : StorageColumns) (w : ℕ) (s : SystemParts) (row : Row)
    → s.zone_names ≡ zones
    → HasZones zones (storage_in c w s row)
unfolding storage_in
storage-keeps zones c w s row e =
    let place : Place = below Storages (storage_count s) in
    zones-bind zones (shape_in place MOST_STORAGES (storage_count s) w row) _ (λ _.
    zones-bind zones (name_in place c.name s.storage_names row) _ (λ n.
    zones-bind zones (storage_of place c s.zone_names row) _ (λ part.
    zones-bind zones (refuse (nat_lt MOST_POOLED_MW (pooled_charge s.storages + part.charge))
    (fault_at place c.charge.column (OutOfRange (pooled_charge s.storages + part.charge) MOST_POOLED_MW))) _ (λ _.
    zones-bind zones (refuse (nat_lt MOST_POOLED_MW (pooled_discharge s.storages + part.discharge))
    (fault_at place c.discharge.column (OutOfRange (pooled_discharge s.storages + part.discharge) MOST_POOLED_MW))) _ (λ _.
    zones-ok zones (with_storage s n part) e)))))

storages-keep : (zones : Names) (s : SystemParts) (header : Row) (rows : Rows)
    → s.zone_names ≡ zones
    → HasZones zones (storage_rows_in s header rows)
unfolding storage_rows_in
storages-keep zones s header rows e =
    zones-bind zones (storage_columns_in header) _ (λ c. zones-in_turn zones (storage_in c (length header)) s rows e (storage-keeps zones c (length header)))

table-keeps : (zones : Names) (table : TableName) (rows : Rows) (read : Row → Rows → Outcome)
    → ((header : Row) (rows : Rows) → HasZones zones (read header rows))
    → HasZones zones (table_in table rows read)
unfolding HasZones
table-keeps zones table [] read h = tt
table-keeps zones table (header ∷ rows) read h = h header rows

there-keeps : (zones : Names) (read : SystemParts → List ℕ → Outcome) (s : SystemParts) (table : Option (List ℕ))
    → s.zone_names ≡ zones
    → ((bytes : List ℕ) → HasZones zones (read s bytes))
    → HasZones zones (where_there read s table)
unfolding where_there
there-keeps zones read s None e h = zones-ok zones s e
there-keeps zones read s (Some bytes) e h = h bytes

-- what comes next is the same, at the zones that were read
then-same : (zones : Names) (r t : Outcome) (f g : SystemParts → Outcome)
    → r ≡ t
    → HasZones zones r
    → ((s : SystemParts) → s.zone_names ≡ zones → f s ≡ g s)
    → (r >>= f) ≡ (t >>= g)
unfolding HasZones
then-same zones (Ok s) t f g e h k = k s h ∙ ap (λ (o : Outcome). o >>= g) e
then-same zones (Err d) t f g e h k = ap (λ (o : Outcome). o >>= g) e

first-same : (r t : Outcome) (f g : SystemParts → Outcome)
    → r ≡ t
    → ((s : SystemParts) → r ≡ Ok s → f s ≡ g s)
    → (r >>= f) ≡ (t >>= g)
first-same (Ok s) t f g e k = k s refl ∙ ap (λ (o : Outcome). o >>= g) e
first-same (Err d) t f g e k = ap (λ (o : Outcome). o >>= g) e

records-same : {A : Type 0} (table : TableName) (names : Names) (read : Row → Rows → Result A TableFault) (a b : Rows)
    → AreRecordsAlike names a b
    → ((h g : Row) (xs ys : Rows) → AreAlike names h g xs ys → read h xs ≡ read g ys)
    → table_in table a read ≡ table_in table b read
records-same table names read [] [] e h = refl
records-same table names read [] (y ∷ ys) e h = absurd e
records-same table names read (x ∷ xs) [] e h = absurd e
records-same table names read (x ∷ xs) (y ∷ ys) e h = h x y xs ys e

bytes-same : {A : Type 0} (table : TableName) (names : Names) (read : Row → Rows → Result A TableFault) (a b : Option (List ℕ))
    → AreTablesAlike names (records_in a) (records_in b)
    → ((h g : Row) (xs ys : Rows) → AreAlike names h g xs ys → read h xs ≡ read g ys)
    → table_in table (records_of (bytes_of a)) read ≡ table_in table (records_of (bytes_of b)) read
bytes-same table names read None None e h = refl
bytes-same table names read None (Some y) e h = absurd e
bytes-same table names read (Some x) None e h = absurd e
bytes-same table names read (Some x) (Some y) e h = records-same table names read (records_of x) (records_of y) e h

there-same : (table : TableName) (names : Names) (read : SystemParts → Row → Rows → Outcome) (s : SystemParts) (a b : Option (List ℕ))
    → AreTablesAlike names (records_in a) (records_in b)
    → ((h g : Row) (xs ys : Rows) → AreAlike names h g xs ys → read s h xs ≡ read s g ys)
    → where_there (λ above bytes. table_in table (records_of bytes) (read above)) s a
    ≡ where_there (λ above bytes. table_in table (records_of bytes) (read above)) s b
unfolding where_there
there-same table names read s None None e h = refl
there-same table names read s None (Some y) e h = absurd e
there-same table names read s (Some x) None e h = absurd e
there-same table names read s (Some x) (Some y) e h = records-same table names (read s) (records_of x) (records_of y) e h

variables-same : (zones : Names) (hours : ℕ) (a b : Option (List ℕ))
    → AreTablesAlike (codes "hour" ∷ zones) (records_in a) (records_in b)
    → variables_in zones hours a ≡ variables_in zones hours b
unfolding variables_in
variables-same zones hours None None e = refl
variables-same zones hours None (Some y) e = absurd e
variables-same zones hours (Some x) None e = absurd e
variables-same zones hours (Some x) (Some y) e =
    let read : amounts_in false Variable hours zones x ≡ amounts_in false Variable hours zones y =
    records-same Variable (codes "hour" ∷ zones) (hour_rows_in false Variable hours zones) (records_of x) (records_of y) e
    (hours-same false Variable hours zones) in
    λ i. read i >>= (λ r. all_hours_in (length r.amounts) hours >>= (λ _. Ok r.amounts))

both-same : (s : SystemParts) (a b c d : Option (List ℕ))
    → AreTablesAlike (codes "hour" ∷ s.zone_names) (records_in a) (records_in b)
    → AreTablesAlike (codes "hour" ∷ s.zone_names) (records_in c) (records_in d)
    → with_hours s (bytes_of a) c ≡ with_hours s (bytes_of b) d
unfolding with_hours
both-same s a b c d e f =
    let read : amounts_in true Load MOST_HOURS s.zone_names (bytes_of a) ≡ amounts_in true Load MOST_HOURS s.zone_names (bytes_of b) =
    bytes-same Load (codes "hour" ∷ s.zone_names) (hour_rows_in true Load MOST_HOURS s.zone_names) a b e
    (hours-same true Load MOST_HOURS s.zone_names) in
    λ i. read i >>= (λ l. some_hour_in (length l.amounts) >>= (λ _.
    variables-same s.zone_names (length l.amounts) c d f i >>= (λ v. Ok (record s { hours = hours_of l.amounts v }))))

hours-alike : (zones : Names) (s : SystemParts) (a b c d : Option (List ℕ))
    → AreTablesAlike (codes "hour" ∷ zones) (records_in a) (records_in b)
    → AreTablesAlike (codes "hour" ∷ zones) (records_in c) (records_in d)
    → s.zone_names ≡ zones
    → with_hours s (bytes_of a) c ≡ with_hours s (bytes_of b) d
hours-alike zones s a b c d e f is =
    both-same s a b c d
    (subst (λ (names : Names). AreTablesAlike (codes "hour" ∷ names) (records_in a) (records_in b)) (sym is) e)
    (subst (λ (names : Names). AreTablesAlike (codes "hour" ∷ names) (records_in c) (records_in d)) (sym is) f)

-- tables that say the same under their columns spell the same system, or have the same first fault
pub same_columns : (a b : TableBytes) → HaveSameColumns a b → system_of b ≡ system_of a
unfolding system_of
same_columns a b h =
    sym (first-same (with_zones no_parts (bytes_of a.zones)) (with_zones no_parts (bytes_of b.zones)) _ _
    (bytes-same Zones zone_headings (zone_rows_in no_parts) a.zones b.zones h.zones (zones-same no_parts))
    (λ z e.
    let zones : Names = z.zone_names in
    then-same zones (with_units z (bytes_of a.units)) (with_units z (bytes_of b.units)) _ _
    (bytes-same Units unit_headings (unit_rows_in z) a.units b.units h.units (units-same z))
    (table-keeps zones Units (records_of (bytes_of a.units)) (unit_rows_in z) (λ header rows. units-keep zones z header rows refl))
    (λ u eu.
    then-same zones (where_there with_interfaces u a.interfaces) (where_there with_interfaces u b.interfaces) _ _
    (there-same Interfaces interface_headings interface_rows_in u a.interfaces b.interfaces h.interfaces (interfaces-same u))
    (there-keeps zones with_interfaces u a.interfaces eu (λ bytes.
    table-keeps zones Interfaces (records_of bytes) (interface_rows_in u) (λ header rows. interfaces-keep zones u header rows eu)))
    (λ n en.
    then-same zones (where_there with_lines n a.lines) (where_there with_lines n b.lines) _ _
    (there-same Lines line_headings line_rows_in n a.lines b.lines h.lines (lines-same n))
    (there-keeps zones with_lines n a.lines en (λ bytes.
    table-keeps zones Lines (records_of bytes) (line_rows_in n) (λ header rows. lines-keep zones n header rows en)))
    (λ l el.
    then-same zones (where_there with_storages l a.storages) (where_there with_storages l b.storages) _ _
    (there-same Storages storage_headings storage_rows_in l a.storages b.storages h.storages (storages-same l))
    (there-keeps zones with_storages l a.storages el (λ bytes.
    table-keeps zones Storages (records_of bytes) (storage_rows_in l) (λ header rows. storages-keep zones l header rows el)))
    (λ t et.
    hours-alike zones t a.load b.load a.variable b.variable (h.load z e) (h.variable z e) et))))))

-- what `read_system` says of all tables
pub ruleset table_laws = (one_outcome, same_records, same_columns)
