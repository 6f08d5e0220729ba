use Rattle.std.proofs.Common.{◌≡◌, ℕ, ◌+◌, ◌*◌, ◌<◌, ◌≤◌, List, [], ◌∷◌, ◌++◌, length, refl, ap, sym, ◌∙◌, subst, arith, length-append}
use Rattle.std.proofs.lemmas.List.{length_push}
use Rattle.std.proofs.lemmas.List.Elements.{All-nil, All-push, All-weaker}
use Rattle.std.proofs.lemmas.List.Sums.{sum_by_push}
use Rattle.std.specs.Global.{Vec}
use Rattle.ra_base.specs.declared.limits.TheConstants.{MOST_ZONES, MOST_UNITS, MOST_INTERFACES, MOST_LINES, MOST_STORAGES, MOST_HOURS, MOST_POOLED_MW}
use Rattle.system_model.specs.declared.components.Unit.{Unit as UnitPart}
use Rattle.system_model.specs.declared.components.Interface.{Interface}
use Rattle.system_model.specs.declared.components.Line.{Line}
use Rattle.system_model.specs.declared.components.Storage.{Storage}
use Rattle.system_model.specs.declared.parts.Parts.{Parts}
use Rattle.system_model.specs.Components.{IsUnitAmong, IsInterfaceAmong, IsLineAmong, IsStorageAmong, pooled_capacity, pooled_charge, pooled_discharge}
use Rattle.system_model.specs.System.{SystemParts, HourAmounts, amounts_of, IsName, IsHourAmong, AreNames, AreUnits, AreInterfaces, AreLines, AreStorages, AreHours, IsWithinLimits, no_parts, zone_count, unit_count, interface_count, line_count, storage_count, hour_count}
use Rattle.system_model.specs.Parts.{hours_of, parts_of, IsFilled, AreDraftParts}
use Rattle.system_model.proofs.HourLists.{hours_of-none, length-hours_of, hours_of-push}

-- a system without parts is within the limits
pub within-none : IsWithinLimits no_parts
within-none =
    record {
      zones = omega arith;
      zone_names = All-nil IsName;
      units = record {
        most = omega arith;
        named = record { size = refl; each = All-nil IsName };
        each = All-nil (IsUnitAmong 0);
        pooled = omega arith;
      };
      interfaces = record {
        most = omega arith;
        named = record { size = refl; each = All-nil IsName };
        each = All-nil (IsInterfaceAmong 0);
      };
      lines = record {
        most = omega arith;
        named = record { size = refl; each = All-nil IsName };
        each = All-nil (IsLineAmong 0);
      };
      storages = record {
        most = omega arith;
        named = record { size = refl; each = All-nil IsName };
        each = All-nil (IsStorageAmong 0);
        charge = omega arith;
        discharge = omega arith;
      };
      hours = record { most = omega arith; each = All-nil (IsHourAmong 0) };
    }

-- no list of hours is empty but that of 0 hours
no_hours : (zones hours : ℕ) (load variable : List ℕ) → hours_of zones hours load variable ≡ [] → hours ≡ 0
no_hours zones hours load variable empty = sym (length-hours_of zones hours load variable) ∙ ap length empty

hours_of-wider : (zones more hours : ℕ) (load variable : List ℕ)
    → hours_of zones hours load variable ≡ []
    → hours_of more hours load variable ≡ hours_of zones hours load variable
hours_of-wider zones more hours load variable empty =
    let none : hours ≡ 0 = no_hours zones hours load variable empty in
    rw none (hours_of-none more load variable ∙ sym (hours_of-none zones load variable))

-- a component of a system is one of a system with more zones
unit-wider : (zones more : ℕ) (unit : UnitPart) → zones ≤ more → IsUnitAmong zones unit → IsUnitAmong more unit
unit-wider zones more unit wider h = record { zone = omega arith; capacity = h.capacity; rates = h.rates }

interface-wider : (zones more : ℕ) (i : Interface) → zones ≤ more → IsInterfaceAmong zones i → IsInterfaceAmong more i
interface-wider zones more i wider h =
    record { start = omega arith; end = omega arith; apart = h.apart; forward = h.forward; backward = h.backward }

storage-wider : (zones more : ℕ) (s : Storage) → zones ≤ more → IsStorageAmong zones s → IsStorageAmong more s
storage-wider zones more s wider h =
    record {
      zone = omega arith;
      charge = h.charge;
      discharge = h.discharge;
      energy = h.energy;
      start = h.start;
      charge_eff = h.charge_eff;
      discharge_eff = h.discharge_eff;
      carry = h.carry;
      rates = h.rates;
    }

abbrev with_zone : SystemParts → List ℕ → SystemParts
with_zone s name = record s { zone_names = s.zone_names ++ name ∷ [] }

within-zone : (s : SystemParts) (name : List ℕ)
    → length s.zone_names < MOST_ZONES
    → IsName name
    → s.hours ≡ []
    → IsWithinLimits s
    → IsWithinLimits (with_zone s name)
within-zone s name room named empty within =
    let before : ℕ = length s.zone_names in
    let after : ℕ = length (s.zone_names ++ name ∷ []) in
    let wider : length s.zone_names ≤ length (s.zone_names ++ name ∷ []) =
    omega (arith, length_push s.zone_names name) in
    record {
      zones = omega (arith, length_push s.zone_names name);
      zone_names = All-push IsName s.zone_names name within.zone_names named;
      units = record {
        most = within.units.most;
        named = within.units.named;
        each =
            All-weaker (IsUnitAmong before) (IsUnitAmong after) (λ u. unit-wider before after u wider) s.units
            within.units.each;
        pooled = within.units.pooled;
      };
      interfaces = record {
        most = within.interfaces.most;
        named = within.interfaces.named;
        each =
            All-weaker (IsInterfaceAmong before) (IsInterfaceAmong after)
            (λ i. interface-wider before after i wider)
            s.interfaces within.interfaces.each;
      };
      lines = within.lines;
      storages = record {
        most = within.storages.most;
        named = within.storages.named;
        each =
            All-weaker (IsStorageAmong before) (IsStorageAmong after)
            (λ i. storage-wider before after i wider)
            s.storages within.storages.each;
        charge = within.storages.charge;
        discharge = within.storages.discharge;
      };
      hours = record { most = within.hours.most; each = rw empty (All-nil (IsHourAmong after)) };
    }

abbrev with_hour : SystemParts → HourAmounts → SystemParts
with_hour s hour = record s { hours = s.hours ++ hour ∷ [] }

within-hour : (s : SystemParts) (hour : HourAmounts)
    → length s.hours < MOST_HOURS
    → IsHourAmong (length s.zone_names) hour
    → IsWithinLimits s
    → IsWithinLimits (with_hour s hour)
within-hour s hour room among within =
    record {
      zones = within.zones;
      zone_names = within.zone_names;
      units = within.units;
      interfaces = within.interfaces;
      lines = within.lines;
      storages = within.storages;
      hours = record {
        most = omega (arith, length_push s.hours hour);
        each = All-push (IsHourAmong (length s.zone_names)) s.hours hour within.hours.each among;
      };
    }

-- a zone more, before the first hour
pub parts_of-zone : (p : Parts) (names : Vec (List ℕ)) (name : List ℕ)
    → names.items ≡ p.zone_names.items ++ name ∷ []
    → (parts_of p).hours ≡ []
    → parts_of (record p { zone_names = names }) ≡ with_zone (parts_of p) name
parts_of-zone p names name added empty =
    let hours : hours_of (length names.items) p.hours p.load.items p.variable.items
    ≡ hours_of (length p.zone_names.items) p.hours p.load.items p.variable.items =
    hours_of-wider (length p.zone_names.items) (length names.items) p.hours p.load.items p.variable.items empty in
    rw (hours, added) refl

pub AreDraftParts-zone : (p : Parts) (s : SystemParts) (names : Vec (List ℕ)) (name : List ℕ)
    → parts_of p ≡ s
    → names.items ≡ p.zone_names.items ++ name ∷ []
    → zone_count s < MOST_ZONES
    → IsName name
    → (parts_of p).hours ≡ []
    → AreDraftParts p
    → AreDraftParts (record p { zone_names = names })
AreDraftParts-zone p s names name is added room named empty held =
    let before-is : length p.zone_names.items ≡ zone_count s = ap zone_count is in
    let none : p.hours ≡ 0 = no_hours (length p.zone_names.items) p.hours p.load.items p.variable.items empty in
    let before : p.hours * length p.zone_names.items ≡ 0 = rw none (omega arith) in
    let after : p.hours * length names.items ≡ 0 = rw none (omega arith) in
    record {
      filled = record {
        load_size = held.filled.load_size ∙ before ∙ sym after;
        variable_size = held.filled.variable_size ∙ before ∙ sym after;
      };
      within =
          subst IsWithinLimits (sym (parts_of-zone p names name added empty))
          (within-zone (parts_of p) name (omega arith) named empty held.within);
    }

-- an hour more
pub parts_of-hour : (p : Parts) (load variable : Vec ℕ) (more_load more_variable : List ℕ)
    → load.items ≡ p.load.items ++ more_load
    → variable.items ≡ p.variable.items ++ more_variable
    → length more_load ≡ length p.zone_names.items
    → length more_variable ≡ length p.zone_names.items
    → IsFilled (length p.zone_names.items) p.hours p.load.items p.variable.items
    → parts_of (record p { load = load; variable = variable; hours = p.hours + 1 })
    ≡ with_hour (parts_of p) (amounts_of more_load more_variable)
parts_of-hour p load variable more_load more_variable l v ml mv filled =
    let hours : hours_of (length p.zone_names.items) (p.hours + 1) load.items variable.items
    ≡ hours_of (length p.zone_names.items) p.hours p.load.items p.variable.items
    ++ amounts_of more_load more_variable ∷ [] =
    rw (l, v)
    (hours_of-push (length p.zone_names.items) p.hours p.load.items p.variable.items more_load more_variable
    filled.load_size filled.variable_size ml mv) in
    rw hours refl

pub AreDraftParts-hour : (p : Parts) (s : SystemParts) (load variable : Vec ℕ) (more_load more_variable : List ℕ)
    → load.items ≡ p.load.items ++ more_load
    → variable.items ≡ p.variable.items ++ more_variable
    → parts_of p ≡ s
    → hour_count s < MOST_HOURS
    → IsHourAmong (length p.zone_names.items) (amounts_of more_load more_variable)
    → AreDraftParts p
    → AreDraftParts (record p { load = load; variable = variable; hours = p.hours + 1 })
AreDraftParts-hour p s load variable more_load more_variable l v is room among held =
    let before-is : length (parts_of p).hours ≡ hour_count s = ap hour_count is in
    let grown : (p.hours + 1) * length p.zone_names.items
    ≡ p.hours * length p.zone_names.items + length p.zone_names.items = omega arith in
    record {
      filled = record {
        load_size =
            ap length l ∙ length-append p.load.items more_load
            ∙ omega (arith, held.filled.load_size, among.load_by_zone, grown);
        variable_size =
            ap length v ∙ length-append p.variable.items more_variable
            ∙ omega (arith, held.filled.variable_size, among.variable_by_zone, grown);
      };
      within =
          subst IsWithinLimits
          (sym (parts_of-hour p load variable more_load more_variable l v among.load_by_zone among.variable_by_zone held.filled))
          (within-hour (parts_of p) (amounts_of more_load more_variable) (omega arith) among held.within);
    }

AreNames-push : (count : ℕ) (names : List (List ℕ)) (name : List ℕ)
    → IsName name
    → AreNames count names
    → AreNames (count + 1) (names ++ name ∷ [])
AreNames-push count names name named all =
    record {
      size = omega (arith, length_push names name, all.size);
      each = All-push IsName names name all.each named;
    }

-- a list has one more behind a push
counted : {A : Type 0} (xs : List A) (x : A) (names : List (List ℕ))
    → AreNames (length xs + 1) names
    → AreNames (length (xs ++ x ∷ [])) names
counted {A} xs x names h = rw (length_push xs x) h

-- a unit more
pub AreDraftParts-unit : (p : Parts) (s : SystemParts) (units : Vec UnitPart) (names : Vec (List ℕ)) (unit : UnitPart) (name : List ℕ)
    → parts_of p ≡ s
    → units.items ≡ p.units.items ++ unit ∷ []
    → names.items ≡ p.unit_names.items ++ name ∷ []
    → unit_count s < MOST_UNITS
    → IsName name
    → IsUnitAmong (zone_count s) unit
    → pooled_capacity s.units + unit.capacity ≤ MOST_POOLED_MW
    → AreDraftParts p
    → AreDraftParts (record p { units = units; unit_names = names })
AreDraftParts-unit p s units names unit name is u n room named among pooled held =
    let before : length p.units.items ≡ unit_count s = ap unit_count is in
    let zones : zone_count s ≡ length p.zone_names.items = ap zone_count (sym is) in
    let sum : pooled_capacity p.units.items ≡ pooled_capacity s.units = ap (λ (t : SystemParts). pooled_capacity t.units) is in
    let within : IsWithinLimits (parts_of p) = held.within in
    record {
      filled = held.filled;
      within = record {
        zones = within.zones;
        zone_names = within.zone_names;
        units = rw (u, n) (record {
          most = omega (arith, length_push p.units.items unit);
          named = counted p.units.items unit _ (AreNames-push (length p.units.items) p.unit_names.items name named within.units.named);
          each = All-push (IsUnitAmong (length p.zone_names.items)) p.units.items unit within.units.each (rw zones at among);
          pooled = omega (arith, sum_by_push (λ (x : UnitPart). x.capacity) p.units.items unit, sum, pooled);
        });
        interfaces = within.interfaces;
        lines = within.lines;
        storages = within.storages;
        hours = within.hours;
      };
    }

line-wider : (interfaces more : ℕ) (line : Line) → interfaces ≤ more → IsLineAmong interfaces line → IsLineAmong more line
line-wider interfaces more line wider h =
    record { interface = omega arith; forward = h.forward; backward = h.backward; rates = h.rates }

-- an interface more
pub AreDraftParts-interface : (p : Parts) (s : SystemParts) (interfaces : Vec Interface) (names : Vec (List ℕ)) (interface : Interface) (name : List ℕ)
    → parts_of p ≡ s
    → interfaces.items ≡ p.interfaces.items ++ interface ∷ []
    → names.items ≡ p.interface_names.items ++ name ∷ []
    → interface_count s < MOST_INTERFACES
    → IsName name
    → IsInterfaceAmong (zone_count s) interface
    → AreDraftParts p
    → AreDraftParts (record p { interfaces = interfaces; interface_names = names })
AreDraftParts-interface p s interfaces names interface name is i n room named among held =
    let before : length p.interfaces.items ≡ interface_count s = ap interface_count is in
    let zones : zone_count s ≡ length p.zone_names.items = ap zone_count (sym is) in
    let within : IsWithinLimits (parts_of p) = held.within in
    let longer : length interfaces.items ≡ length p.interfaces.items + 1 =
    ap length i ∙ length_push p.interfaces.items interface in
    record {
      filled = held.filled;
      within = record {
        zones = within.zones;
        zone_names = within.zone_names;
        units = within.units;
        interfaces = rw (i, n) (record {
          most = omega (arith, length_push p.interfaces.items interface);
          named = counted p.interfaces.items interface _ (AreNames-push (length p.interfaces.items) p.interface_names.items name named within.interfaces.named);
          each = All-push (IsInterfaceAmong (length p.zone_names.items)) p.interfaces.items interface within.interfaces.each (rw zones at among);
        });
        lines = record {
          most = within.lines.most;
          named = within.lines.named;
          each =
              All-weaker (IsLineAmong (length p.interfaces.items)) (IsLineAmong (length interfaces.items))
              (λ line. line-wider (length p.interfaces.items) (length interfaces.items) line (omega (arith, longer)))
              p.lines.items within.lines.each;
        };
        storages = within.storages;
        hours = within.hours;
      };
    }

-- a line more
pub AreDraftParts-line : (p : Parts) (s : SystemParts) (lines : Vec Line) (names : Vec (List ℕ)) (line : Line) (name : List ℕ)
    → parts_of p ≡ s
    → lines.items ≡ p.lines.items ++ line ∷ []
    → names.items ≡ p.line_names.items ++ name ∷ []
    → line_count s < MOST_LINES
    → IsName name
    → IsLineAmong (interface_count s) line
    → AreDraftParts p
    → AreDraftParts (record p { lines = lines; line_names = names })
AreDraftParts-line p s lines names line name is l n room named among held =
    let before : length p.lines.items ≡ line_count s = ap line_count is in
    let interfaces : interface_count s ≡ length p.interfaces.items = ap interface_count (sym is) in
    let within : IsWithinLimits (parts_of p) = held.within in
    record {
      filled = held.filled;
      within = record {
        zones = within.zones;
        zone_names = within.zone_names;
        units = within.units;
        interfaces = within.interfaces;
        lines = rw (l, n) (record {
          most = omega (arith, length_push p.lines.items line);
          named = counted p.lines.items line _ (AreNames-push (length p.lines.items) p.line_names.items name named within.lines.named);
          each = All-push (IsLineAmong (length p.interfaces.items)) p.lines.items line within.lines.each (rw interfaces at among);
        });
        storages = within.storages;
        hours = within.hours;
      };
    }

-- a storage more
pub AreDraftParts-storage : (p : Parts) (s : SystemParts) (storages : Vec Storage) (names : Vec (List ℕ)) (storage : Storage) (name : List ℕ)
    → parts_of p ≡ s
    → storages.items ≡ p.storages.items ++ storage ∷ []
    → names.items ≡ p.storage_names.items ++ name ∷ []
    → storage_count s < MOST_STORAGES
    → IsName name
    → IsStorageAmong (zone_count s) storage
    → pooled_charge s.storages + storage.charge ≤ MOST_POOLED_MW
    → pooled_discharge s.storages + storage.discharge ≤ MOST_POOLED_MW
    → AreDraftParts p
    → AreDraftParts (record p { storages = storages; storage_names = names })
AreDraftParts-storage p s storages names storage name is k n room named among charge discharge held =
    let before : length p.storages.items ≡ storage_count s = ap storage_count is in
    let zones : zone_count s ≡ length p.zone_names.items = ap zone_count (sym is) in
    let c : pooled_charge p.storages.items ≡ pooled_charge s.storages = ap (λ (t : SystemParts). pooled_charge t.storages) is in
    let d : pooled_discharge p.storages.items ≡ pooled_discharge s.storages = ap (λ (t : SystemParts). pooled_discharge t.storages) is in
    let within : IsWithinLimits (parts_of p) = held.within in
    record {
      filled = held.filled;
      within = record {
        zones = within.zones;
        zone_names = within.zone_names;
        units = within.units;
        interfaces = within.interfaces;
        lines = within.lines;
        storages = rw (k, n) (record {
          most = omega (arith, length_push p.storages.items storage);
          named = counted p.storages.items storage _ (AreNames-push (length p.storages.items) p.storage_names.items name named within.storages.named);
          each = All-push (IsStorageAmong (length p.zone_names.items)) p.storages.items storage within.storages.each (rw zones at among);
          charge = omega (arith, sum_by_push (λ (x : Storage). x.charge) p.storages.items storage, c, charge);
          discharge = omega (arith, sum_by_push (λ (x : Storage). x.discharge) p.storages.items storage, d, discharge);
        });
        hours = within.hours;
      };
    }
