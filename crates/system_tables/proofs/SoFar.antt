use Rattle.std.proofs.Common.{◌≡◌, ℕ, List, [], length, ap, sym, ◌∙◌, arith}
use Rattle.system_model.specs.Components.{pooled_capacity, pooled_charge, pooled_discharge}
use Rattle.system_model.specs.System.{SystemParts, no_parts, zone_count}
use Rattle.system_tables.specs.SoFar.{behind_zones, behind_units, behind_interfaces, behind_lines, AreZones, AreZonesSoFar, AreUnitsSoFar, AreInterfacesSoFar, AreLinesSoFar, AreStoragesSoFar, AreUnitsRead, AreLinesRead, AreStoragesRead}

abbrev Names : Type 0
Names = List (List ℕ)

pub zones-counted : (draft : SystemParts) (zones : Names) → AreZones draft zones → zone_count draft ≡ length zones
zones-counted draft zones h = ap length h.names

-- each table begins without a row
pub zones-none : (draft : SystemParts) (names : Names) → draft ≡ no_parts → names ≡ [] → AreZonesSoFar draft names
zones-none draft names e n =
    record {
      zones_are = record { names = ap (λ (s : SystemParts). s.zone_names) e ∙ sym n; most = omega (arith, ap length n) };
      later = ap behind_zones e;
    }

pub start_units : (draft : SystemParts) (zones names : Names)
    → AreZonesSoFar draft zones
    → names ≡ []
    → AreUnitsSoFar draft zones names 0
start_units draft zones names h n =
    let units : draft.units ≡ [] = ap (λ (s : SystemParts). s.units) h.later in
    record {
      zones_are = h.zones_are;
      names_are = ap (λ (s : SystemParts). s.unit_names) h.later ∙ sym n;
      size = ap length n ∙ sym (ap length units);
      most = omega (arith, ap length n);
      pooled_is = sym (ap pooled_capacity units);
      pooled_most = omega arith;
      later = ap behind_units h.later;
    }

pub start_interfaces : (draft : SystemParts) (zones names : Names)
    → AreUnitsRead draft zones
    → names ≡ []
    → AreInterfacesSoFar draft zones names
start_interfaces draft zones names h n =
    let parts : draft.interfaces ≡ [] = ap (λ (s : SystemParts). s.interfaces) h.later in
    record {
      zones_are = h.zones_are;
      interfaces_are = record {
        names_are = ap (λ (s : SystemParts). s.interface_names) h.later ∙ sym n;
        size = ap length n ∙ sym (ap length parts);
        most = omega (arith, ap length n);
      };
      later = ap behind_interfaces h.later;
    }

pub start_lines : (draft : SystemParts) (zones interfaces names : Names)
    → AreInterfacesSoFar draft zones interfaces
    → names ≡ []
    → AreLinesSoFar draft zones interfaces names
start_lines draft zones interfaces names h n =
    let parts : draft.lines ≡ [] = ap (λ (s : SystemParts). s.lines) h.later in
    record {
      zones_are = h.zones_are;
      interfaces_are = h.interfaces_are;
      names_are = ap (λ (s : SystemParts). s.line_names) h.later ∙ sym n;
      size = ap length n ∙ sym (ap length parts);
      most = omega (arith, ap length n);
      later = ap behind_lines h.later;
    }

pub no_lines : (draft : SystemParts) (zones interfaces : Names) → AreInterfacesSoFar draft zones interfaces → AreLinesRead draft zones
no_lines draft zones interfaces h = record { zones_are = h.zones_are; later = ap behind_lines h.later }

pub start_storages : (draft : SystemParts) (zones names : Names)
    → AreLinesRead draft zones
    → names ≡ []
    → AreStoragesSoFar draft zones names 0 0
start_storages draft zones names h n =
    let parts : draft.storages ≡ [] = ap (λ (s : SystemParts). s.storages) h.later in
    record {
      zones_are = h.zones_are;
      names_are = ap (λ (s : SystemParts). s.storage_names) h.later ∙ sym n;
      size = ap length n ∙ sym (ap length parts);
      most = omega (arith, ap length n);
      charge_is = sym (ap pooled_charge parts);
      charge_most = omega arith;
      discharge_is = sym (ap pooled_discharge parts);
      discharge_most = omega arith;
      later = ap (λ (s : SystemParts). s.hours) h.later;
    }

pub no_storages : (draft : SystemParts) (zones : Names) → AreLinesRead draft zones → AreStoragesRead draft zones
no_storages draft zones h = record { zones_are = h.zones_are; later = ap (λ (s : SystemParts). s.hours) h.later }
