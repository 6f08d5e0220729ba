use Rattle.std.proofs.Common.{◌≡◌, ℕ, ◌+◌, ◌==◌, [], length, All, Ok, codes, arith, nat_lt}
use Rattle.ra_base.specs.declared.limits.TheConstants.{MOST_ENERGY_KWH, MOST_INTERFACES, MOST_LINES, MOST_LINK_MW, MOST_POOLED_MW, MOST_STORAGES, MOST_UNITS, MOST_ZONES}
use Rattle.ra_base.specs.declared.table.TableName.TheVariants.{Zones, Units, Interfaces, Lines, Storages}
use Rattle.system_model.specs.Components.{pooled_capacity, pooled_charge, pooled_discharge}
use Rattle.system_model.specs.System.{SystemParts, zone_count, unit_count, interface_count, line_count, storage_count}
use Rattle.system_tables.specs.declared.faults.Cause.TheVariants.{OutOfRange, SameZone}
use Rattle.system_tables.specs.declared.faults.Column.TheVariants.{Fixed}
use Rattle.system_tables.specs.declared.faults.Place.{Place}
use Rattle.system_tables.specs.declared.interfaces.InterfaceColumns.{InterfaceColumns}
use Rattle.system_tables.specs.declared.lines.LineColumns.{LineColumns}
use Rattle.system_tables.specs.declared.storages.StorageColumns.{StorageColumns}
use Rattle.system_tables.specs.declared.units.UnitColumns.{UnitColumns}
use Rattle.system_tables.specs.declared.zones.ZoneColumns.{ZoneColumns}
use Rattle.system_tables.specs.Columns.{found_in}
use Rattle.system_tables.specs.Faults.{◌>>=◌, fault_at, refuse, below}
use Rattle.system_tables.specs.Names.{Names}
use Rattle.system_tables.specs.Records.{Row, Rows}
use Rattle.system_tables.specs.SameColumns.{StandAlike, SayTheSame, AreAlike, zone_headings, unit_headings, interface_headings, line_headings, storage_headings}
use Rattle.system_tables.specs.Zones.{zone_columns_in, with_zone, zone_in, some_zone_in, zone_rows_in}
use Rattle.system_tables.specs.Units.{unit_columns_in, unit_of, with_unit, unit_in, unit_rows_in}
use Rattle.system_tables.specs.Interfaces.{interface_columns_in, interface_of, with_interface, interface_in, interface_rows_in}
use Rattle.system_tables.specs.Lines.{line_columns_in, line_of, with_line, line_in, line_rows_in}
use Rattle.system_tables.specs.Storages.{storage_columns_in, storage_of, with_storage, storage_in, storage_rows_in}
use Rattle.system_tables.proofs.ColumnOrderLaws.{Alike, AreSame, ReadAlike, with_column, ok-alike, bind-same, in_turn-same, same_in, rows-same, shape-same, whole-same, value-same, share-same, rates-same, some_rate-same, name-same, zone_name-same, reference-same}

abbrev Headers : Names → Row → Row → Type 0
Headers names a b = All (λ name. StandAlike (found_in a name) (found_in b name)) names

zone-same : (a b : ZoneColumns) (v w : ℕ) (s : SystemParts) (x y : Row)
    → (length x == v) ≡ (length y == w)
    → AreSame a.name b.name x y
    → zone_in a v s x ≡ zone_in b w s y
unfolding zone_in
zone-same a b v w s x y shape name = λ i.
    shape-same (below Zones (zone_count s)) MOST_ZONES (zone_count s) v w x y shape i >>= (λ _.
    zone_name-same (below Zones (zone_count s)) a.name b.name s.zone_names x y name i >>= (λ n.
    Ok (with_zone s n)))

zone-columns : (a b : Row)
    → Headers zone_headings a b
    → Alike (ReadAlike zone_in zone_headings a b) (zone_columns_in a) (zone_columns_in b)
unfolding zone_columns_in
zone-columns a b h =
    let R = ReadAlike zone_in zone_headings a b in
    with_column R Zones (Fixed 0) a b (codes "name") _ _ (h 0 [] (omega arith)) (λ n m name.
    ok-alike R _ _ (λ s x y e.
    zone-same _ _ (length a) (length b) s x y e.full (same_in _ _ n m x y name (e.fields 0 [] (omega arith)))))

pub zones-same : (s : SystemParts) (a b : Row) (xs ys : Rows)
    → AreAlike zone_headings a b xs ys
    → zone_rows_in s a xs ≡ zone_rows_in s b ys
unfolding zone_rows_in
zones-same s a b xs ys h =
    bind-same (ReadAlike zone_in zone_headings a b) (zone_columns_in a) (zone_columns_in b) _ _ (zone-columns a b h.headers)
    (λ c d same. λ i.
    in_turn-same (zone_in c (length a)) (zone_in d (length b)) (SayTheSame zone_headings a b) s xs ys h.count h.rows same i
    >>= (λ read. some_zone_in read))

unit_of-same : (place : Place) (a b : UnitColumns) (zones : Names) (x y : Row)
    → AreSame a.zone b.zone x y
    → AreSame a.capacity b.capacity x y
    → AreSame a.rates.failure b.rates.failure x y
    → AreSame a.rates.repair b.rates.repair x y
    → unit_of place a zones x ≡ unit_of place b zones y
unfolding unit_of
unit_of-same place a b zones x y zone capacity failure repair = λ i.
    reference-same place a.zone b.zone zones x y zone i >>= (λ z.
    whole-same place a.capacity b.capacity 0 MOST_POOLED_MW x y capacity i >>= (λ c.
    rates-same place a.rates b.rates x y failure repair i >>= (λ r.
    some_rate-same place a.rates b.rates x y r repair i >>= (λ _.
    Ok (record { zone = z; capacity = c; rates = r })))))

unit-same : (a b : UnitColumns) (v w : ℕ) (s : SystemParts) (x y : Row)
    → (length x == v) ≡ (length y == w)
    → AreSame a.name b.name x y
    → AreSame a.zone b.zone x y
    → AreSame a.capacity b.capacity x y
    → AreSame a.rates.failure b.rates.failure x y
    → AreSame a.rates.repair b.rates.repair x y
    → unit_in a v s x ≡ unit_in b w s y
unfolding unit_in
unit-same a b v w s x y shape name zone capacity failure repair =
    let place : Place = below Units (unit_count s) in
    λ i.
    shape-same place MOST_UNITS (unit_count s) v w x y shape i >>= (λ _.
    name-same place a.name b.name s.unit_names x y name i >>= (λ n.
    unit_of-same place a b s.zone_names x y zone capacity failure repair i >>= (λ unit.
    refuse (nat_lt MOST_POOLED_MW (pooled_capacity s.units + unit.capacity))
    (fault_at place (capacity.column i) (OutOfRange (pooled_capacity s.units + unit.capacity) MOST_POOLED_MW)) >>= (λ _.
    Ok (with_unit s n unit)))))

unit-columns : (a b : Row)
    → Headers unit_headings a b
    → Alike (ReadAlike unit_in unit_headings a b) (unit_columns_in a) (unit_columns_in b)
unfolding unit_columns_in
unit-columns a b h =
    let R = ReadAlike unit_in unit_headings a b in
    with_column R Units (Fixed 0) a b (codes "name") _ _ (h 0 [] (omega arith)) (λ n0 m0 c0.
    with_column R Units (Fixed 1) a b (codes "zone") _ _ (h 1 [] (omega arith)) (λ n1 m1 c1.
    with_column R Units (Fixed 2) a b (codes "capacity") _ _ (h 2 [] (omega arith)) (λ n2 m2 c2.
    with_column R Units (Fixed 3) a b (codes "failure") _ _ (h 3 [] (omega arith)) (λ n3 m3 c3.
    with_column R Units (Fixed 4) a b (codes "repair") _ _ (h 4 [] (omega arith)) (λ n4 m4 c4.
    ok-alike R _ _ (λ s x y e.
    unit-same _ _ (length a) (length b) s x y e.full
    (same_in _ _ n0 m0 x y c0 (e.fields 0 [] (omega arith)))
    (same_in _ _ n1 m1 x y c1 (e.fields 1 [] (omega arith)))
    (same_in _ _ n2 m2 x y c2 (e.fields 2 [] (omega arith)))
    (same_in _ _ n3 m3 x y c3 (e.fields 3 [] (omega arith)))
    (same_in _ _ n4 m4 x y c4 (e.fields 4 [] (omega arith)))))))))

pub units-same : (s : SystemParts) (a b : Row) (xs ys : Rows)
    → AreAlike unit_headings a b xs ys
    → unit_rows_in s a xs ≡ unit_rows_in s b ys
unfolding unit_rows_in
units-same s a b xs ys h = rows-same unit_in unit_headings s a b xs ys _ _ h (unit-columns a b h.headers)

interface_of-same : (place : Place) (a b : InterfaceColumns) (zones : Names) (x y : Row)
    → AreSame a.start b.start x y
    → AreSame a.end b.end x y
    → AreSame a.forward b.forward x y
    → AreSame a.backward b.backward x y
    → interface_of place a zones x ≡ interface_of place b zones y
unfolding interface_of
interface_of-same place a b zones x y start end forward backward = λ i.
    reference-same place a.start b.start zones x y start i >>= (λ p.
    reference-same place a.end b.end zones x y end i >>= (λ q.
    whole-same place a.forward b.forward 0 MOST_LINK_MW x y forward i >>= (λ f.
    whole-same place a.backward b.backward 0 MOST_LINK_MW x y backward i >>= (λ g.
    refuse (p == q) (fault_at place (end.column i) SameZone) >>= (λ _.
    Ok (record { from = p; to = q; forward = f; backward = g }))))))

interface-same : (a b : InterfaceColumns) (v w : ℕ) (s : SystemParts) (x y : Row)
    → (length x == v) ≡ (length y == w)
    → AreSame a.name b.name x y
    → AreSame a.start b.start x y
    → AreSame a.end b.end x y
    → AreSame a.forward b.forward x y
    → AreSame a.backward b.backward x y
    → interface_in a v s x ≡ interface_in b w s y
unfolding interface_in
interface-same a b v w s x y shape name start end forward backward =
    let place : Place = below Interfaces (interface_count s) in
    λ i.
    shape-same place MOST_INTERFACES (interface_count s) v w x y shape i >>= (λ _.
    name-same place a.name b.name s.interface_names x y name i >>= (λ n.
    interface_of-same place a b s.zone_names x y start end forward backward i >>= (λ interface.
    Ok (with_interface s n interface))))

interface-columns : (a b : Row)
    → Headers interface_headings a b
    → Alike (ReadAlike interface_in interface_headings a b) (interface_columns_in a) (interface_columns_in b)
unfolding interface_columns_in
interface-columns a b h =
    let R = ReadAlike interface_in interface_headings a b in
    with_column R Interfaces (Fixed 0) a b (codes "name") _ _ (h 0 [] (omega arith)) (λ n0 m0 c0.
    with_column R Interfaces (Fixed 1) a b (codes "from") _ _ (h 1 [] (omega arith)) (λ n1 m1 c1.
    with_column R Interfaces (Fixed 2) a b (codes "to") _ _ (h 2 [] (omega arith)) (λ n2 m2 c2.
    with_column R Interfaces (Fixed 3) a b (codes "forward") _ _ (h 3 [] (omega arith)) (λ n3 m3 c3.
    with_column R Interfaces (Fixed 4) a b (codes "backward") _ _ (h 4 [] (omega arith)) (λ n4 m4 c4.
    ok-alike R _ _ (λ s x y e.
    interface-same _ _ (length a) (length b) s x y e.full
    (same_in _ _ n0 m0 x y c0 (e.fields 0 [] (omega arith)))
    (same_in _ _ n1 m1 x y c1 (e.fields 1 [] (omega arith)))
    (same_in _ _ n2 m2 x y c2 (e.fields 2 [] (omega arith)))
    (same_in _ _ n3 m3 x y c3 (e.fields 3 [] (omega arith)))
    (same_in _ _ n4 m4 x y c4 (e.fields 4 [] (omega arith)))))))))

pub interfaces-same : (s : SystemParts) (a b : Row) (xs ys : Rows)
    → AreAlike interface_headings a b xs ys
    → interface_rows_in s a xs ≡ interface_rows_in s b ys
unfolding interface_rows_in
interfaces-same s a b xs ys h = rows-same interface_in interface_headings s a b xs ys _ _ h (interface-columns a b h.headers)

line_of-same : (place : Place) (a b : LineColumns) (interfaces : Names) (x y : Row)
    → AreSame a.interface b.interface x y
    → AreSame a.forward b.forward x y
    → AreSame a.backward b.backward x y
    → AreSame a.rates.failure b.rates.failure x y
    → AreSame a.rates.repair b.rates.repair x y
    → line_of place a interfaces x ≡ line_of place b interfaces y
unfolding line_of
line_of-same place a b interfaces x y interface forward backward failure repair = λ i.
    reference-same place a.interface b.interface interfaces x y interface i >>= (λ n.
    whole-same place a.forward b.forward 0 MOST_LINK_MW x y forward i >>= (λ f.
    whole-same place a.backward b.backward 0 MOST_LINK_MW x y backward i >>= (λ g.
    rates-same place a.rates b.rates x y failure repair i >>= (λ r.
    some_rate-same place a.rates b.rates x y r repair i >>= (λ _.
    Ok (record { interface = n; forward = f; backward = g; rates = r }))))))

line-same : (a b : LineColumns) (v w : ℕ) (s : SystemParts) (x y : Row)
    → (length x == v) ≡ (length y == w)
    → AreSame a.name b.name x y
    → AreSame a.interface b.interface x y
    → AreSame a.forward b.forward x y
    → AreSame a.backward b.backward x y
    → AreSame a.rates.failure b.rates.failure x y
    → AreSame a.rates.repair b.rates.repair x y
    → line_in a v s x ≡ line_in b w s y
unfolding line_in
line-same a b v w s x y shape name interface forward backward failure repair =
    let place : Place = below Lines (line_count s) in
    λ i.
    shape-same place MOST_LINES (line_count s) v w x y shape i >>= (λ _.
    name-same place a.name b.name s.line_names x y name i >>= (λ n.
    line_of-same place a b s.interface_names x y interface forward backward failure repair i >>= (λ line.
    Ok (with_line s n line))))

line-columns : (a b : Row)
    → Headers line_headings a b
    → Alike (ReadAlike line_in line_headings a b) (line_columns_in a) (line_columns_in b)
unfolding line_columns_in
line-columns a b h =
    let R = ReadAlike line_in line_headings a b in
    with_column R Lines (Fixed 0) a b (codes "name") _ _ (h 0 [] (omega arith)) (λ n0 m0 c0.
    with_column R Lines (Fixed 1) a b (codes "interface") _ _ (h 1 [] (omega arith)) (λ n1 m1 c1.
    with_column R Lines (Fixed 2) a b (codes "forward") _ _ (h 2 [] (omega arith)) (λ n2 m2 c2.
    with_column R Lines (Fixed 3) a b (codes "backward") _ _ (h 3 [] (omega arith)) (λ n3 m3 c3.
    with_column R Lines (Fixed 4) a b (codes "failure") _ _ (h 4 [] (omega arith)) (λ n4 m4 c4.
    with_column R Lines (Fixed 5) a b (codes "repair") _ _ (h 5 [] (omega arith)) (λ n5 m5 c5.
    ok-alike R _ _ (λ s x y e.
    line-same _ _ (length a) (length b) s x y e.full
    (same_in _ _ n0 m0 x y c0 (e.fields 0 [] (omega arith)))
    (same_in _ _ n1 m1 x y c1 (e.fields 1 [] (omega arith)))
    (same_in _ _ n2 m2 x y c2 (e.fields 2 [] (omega arith)))
    (same_in _ _ n3 m3 x y c3 (e.fields 3 [] (omega arith)))
    (same_in _ _ n4 m4 x y c4 (e.fields 4 [] (omega arith)))
    (same_in _ _ n5 m5 x y c5 (e.fields 5 [] (omega arith))))))))))

pub lines-same : (s : SystemParts) (a b : Row) (xs ys : Rows)
    → AreAlike line_headings a b xs ys
    → line_rows_in s a xs ≡ line_rows_in s b ys
unfolding line_rows_in
lines-same s a b xs ys h = rows-same line_in line_headings s a b xs ys _ _ h (line-columns a b h.headers)

storage_of-same : (place : Place) (a b : StorageColumns) (zones : Names) (x y : Row)
    → AreSame a.zone b.zone x y
    → AreSame a.charge b.charge x y
    → AreSame a.discharge b.discharge x y
    → AreSame a.energy b.energy x y
    → AreSame a.start b.start x y
    → AreSame a.charge_eff b.charge_eff x y
    → AreSame a.discharge_eff b.discharge_eff x y
    → AreSame a.carry b.carry x y
    → AreSame a.rates.failure b.rates.failure x y
    → AreSame a.rates.repair b.rates.repair x y
    → storage_of place a zones x ≡ storage_of place b zones y
unfolding storage_of
storage_of-same place a b zones x y zone charge discharge energy start charge_eff discharge_eff carry failure repair = λ i.
    reference-same place a.zone b.zone zones x y zone i >>= (λ z.
    whole-same place a.charge b.charge 0 MOST_POOLED_MW x y charge i >>= (λ c.
    whole-same place a.discharge b.discharge 0 MOST_POOLED_MW x y discharge i >>= (λ d.
    whole-same place a.energy b.energy 0 MOST_ENERGY_KWH x y energy i >>= (λ e.
    value-same place a.start b.start x y start i >>= (λ f.
    share-same place a.charge_eff b.charge_eff x y charge_eff i >>= (λ p.
    share-same place a.discharge_eff b.discharge_eff x y discharge_eff i >>= (λ q.
    share-same place a.carry b.carry x y carry i >>= (λ k.
    rates-same place a.rates b.rates x y failure repair i >>= (λ r.
    refuse (nat_lt e f) (fault_at place (start.column i) (OutOfRange f e)) >>= (λ _.
    some_rate-same place a.rates b.rates x y r repair i >>= (λ _.
    Ok (record {
      zone = z;
      charge = c;
      discharge = d;
      energy = e;
      start = f;
      charge_eff = p;
      discharge_eff = q;
      carry = k;
      rates = r;
    }))))))))))))

storage-same : (a b : StorageColumns) (v w : ℕ) (s : SystemParts) (x y : Row)
    → (length x == v) ≡ (length y == w)
    → AreSame a.name b.name x y
    → AreSame a.zone b.zone x y
    → AreSame a.charge b.charge x y
    → AreSame a.discharge b.discharge x y
    → AreSame a.energy b.energy x y
    → AreSame a.start b.start x y
    → AreSame a.charge_eff b.charge_eff x y
    → AreSame a.discharge_eff b.discharge_eff x y
    → AreSame a.carry b.carry x y
    → AreSame a.rates.failure b.rates.failure x y
    → AreSame a.rates.repair b.rates.repair x y
    → storage_in a v s x ≡ storage_in b w s y
unfolding storage_in
storage-same a b v w s x y shape name zone charge discharge energy start charge_eff discharge_eff carry failure repair =
    let place : Place = below Storages (storage_count s) in
    λ i.
    shape-same place MOST_STORAGES (storage_count s) v w x y shape i >>= (λ _.
    name-same place a.name b.name s.storage_names x y name i >>= (λ n.
    storage_of-same place a b s.zone_names x y zone charge discharge energy start charge_eff discharge_eff carry failure repair i >>= (λ storage.
    refuse (nat_lt MOST_POOLED_MW (pooled_charge s.storages + storage.charge))
    (fault_at place (charge.column i) (OutOfRange (pooled_charge s.storages + storage.charge) MOST_POOLED_MW)) >>= (λ _.
    refuse (nat_lt MOST_POOLED_MW (pooled_discharge s.storages + storage.discharge))
    (fault_at place (discharge.column i) (OutOfRange (pooled_discharge s.storages + storage.discharge) MOST_POOLED_MW)) >>= (λ _.
    Ok (with_storage s n storage))))))

storage-columns : (a b : Row)
    → Headers storage_headings a b
    → Alike (ReadAlike storage_in storage_headings a b) (storage_columns_in a) (storage_columns_in b)
unfolding storage_columns_in
storage-columns a b h =
    let R = ReadAlike storage_in storage_headings a b in
    with_column R Storages (Fixed 0) a b (codes "name") _ _ (h 0 [] (omega arith)) (λ n0 m0 c0.
    with_column R Storages (Fixed 1) a b (codes "zone") _ _ (h 1 [] (omega arith)) (λ n1 m1 c1.
    with_column R Storages (Fixed 2) a b (codes "charge") _ _ (h 2 [] (omega arith)) (λ n2 m2 c2.
    with_column R Storages (Fixed 3) a b (codes "discharge") _ _ (h 3 [] (omega arith)) (λ n3 m3 c3.
    with_column R Storages (Fixed 4) a b (codes "energy_kwh") _ _ (h 4 [] (omega arith)) (λ n4 m4 c4.
    with_column R Storages (Fixed 5) a b (codes "start_kwh") _ _ (h 5 [] (omega arith)) (λ n5 m5 c5.
    with_column R Storages (Fixed 6) a b (codes "charge_efficiency") _ _ (h 6 [] (omega arith)) (λ n6 m6 c6.
    with_column R Storages (Fixed 7) a b (codes "discharge_efficiency") _ _ (h 7 [] (omega arith)) (λ n7 m7 c7.
    with_column R Storages (Fixed 8) a b (codes "carryover") _ _ (h 8 [] (omega arith)) (λ n8 m8 c8.
    with_column R Storages (Fixed 9) a b (codes "failure") _ _ (h 9 [] (omega arith)) (λ n9 m9 c9.
    with_column R Storages (Fixed 10) a b (codes "repair") _ _ (h 10 [] (omega arith)) (λ n10 m10 c10.
    ok-alike R _ _ (λ s x y e.
    storage-same _ _ (length a) (length b) s x y e.full
    (same_in _ _ n0 m0 x y c0 (e.fields 0 [] (omega arith)))
    (same_in _ _ n1 m1 x y c1 (e.fields 1 [] (omega arith)))
    (same_in _ _ n2 m2 x y c2 (e.fields 2 [] (omega arith)))
    (same_in _ _ n3 m3 x y c3 (e.fields 3 [] (omega arith)))
    (same_in _ _ n4 m4 x y c4 (e.fields 4 [] (omega arith)))
    (same_in _ _ n5 m5 x y c5 (e.fields 5 [] (omega arith)))
    (same_in _ _ n6 m6 x y c6 (e.fields 6 [] (omega arith)))
    (same_in _ _ n7 m7 x y c7 (e.fields 7 [] (omega arith)))
    (same_in _ _ n8 m8 x y c8 (e.fields 8 [] (omega arith)))
    (same_in _ _ n9 m9 x y c9 (e.fields 9 [] (omega arith)))
    (same_in _ _ n10 m10 x y c10 (e.fields 10 [] (omega arith)))))))))))))))

pub storages-same : (s : SystemParts) (a b : Row) (xs ys : Rows)
    → AreAlike storage_headings a b xs ys
    → storage_rows_in s a xs ≡ storage_rows_in s b ys
unfolding storage_rows_in
storages-same s a b xs ys h = rows-same storage_in storage_headings s a b xs ys _ _ h (storage-columns a b h.headers)
