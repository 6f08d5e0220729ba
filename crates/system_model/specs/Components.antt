-- Units, interfaces, lines and storages in their ranges, and what they have together.
use Rattle.std.specs.Prelude.{ℕ, ◌<◌, ◌≤◌, ◌≢◌, List, sum_by}
use Rattle.ra_base.specs.declared.limits.TheConstants.{MOST_POOLED_MW, MOST_LINK_MW, MOST_ENERGY_KWH, THOUSAND}
use Rattle.system_model.specs.declared.components.Unit.{Unit as UnitPart}
use Rattle.system_model.specs.declared.components.Interface.{Interface}
use Rattle.system_model.specs.declared.components.Line.{Line}
use Rattle.system_model.specs.declared.components.Storage.{Storage}
use Rattle.system_model.specs.Rates.{AreRates}

-- a unit of a system with so many zones
pub record IsUnitAmong (zones : ℕ) (unit : UnitPart) : Type 0 where
  pub zone : unit.zone < zones
  pub capacity : unit.capacity ≤ MOST_POOLED_MW
  pub rates : AreRates unit.rates

-- an interface between two different zones, of so many
pub record IsInterfaceAmong (zones : ℕ) (interface : Interface) : Type 0 where
  pub start : interface.from < zones
  pub end : interface.to < zones
  pub apart : interface.from ≢ interface.to
  pub forward : interface.forward ≤ MOST_LINK_MW
  pub backward : interface.backward ≤ MOST_LINK_MW

-- a line of one of so many interfaces
pub record IsLineAmong (interfaces : ℕ) (line : Line) : Type 0 where
  pub interface : line.interface < interfaces
  pub forward : line.forward ≤ MOST_LINK_MW
  pub backward : line.backward ≤ MOST_LINK_MW
  pub rates : AreRates line.rates

-- an efficiency or a carryover, in thousandths
pub record IsShare (thousandths : ℕ) : Type 0 where
  pub some : 1 ≤ thousandths
  pub most : thousandths ≤ THOUSAND

-- a storage of a system with so many zones
pub record IsStorageAmong (zones : ℕ) (storage : Storage) : Type 0 where
  pub zone : storage.zone < zones
  pub charge : storage.charge ≤ MOST_POOLED_MW
  pub discharge : storage.discharge ≤ MOST_POOLED_MW
  pub energy : storage.energy ≤ MOST_ENERGY_KWH
  pub start : storage.start ≤ storage.energy
  pub charge_eff : IsShare storage.charge_eff
  pub discharge_eff : IsShare storage.discharge_eff
  pub carry : IsShare storage.carry
  pub rates : AreRates storage.rates

-- the capacity of all units together, in MW
abbrev pub pooled_capacity : List UnitPart → ℕ
pooled_capacity units = sum_by (λ unit. unit.capacity) units

-- the charge capacity of all storages together, in MW
abbrev pub pooled_charge : List Storage → ℕ
pooled_charge storages = sum_by (λ storage. storage.charge) storages

-- the discharge capacity of all storages together, in MW
abbrev pub pooled_discharge : List Storage → ℕ
pooled_discharge storages = sum_by (λ storage. storage.discharge) storages

-- what stands past the last component of a kind: nothing
abbrev pub no_unit : UnitPart
no_unit = record { zone = 0; capacity = 0; rates = record { f = 0; r = 1 } }

abbrev pub no_interface : Interface
no_interface = record { from = 0; to = 0; forward = 0; backward = 0 }

abbrev pub no_line : Line
no_line = record { interface = 0; forward = 0; backward = 0; rates = record { f = 0; r = 1 } }

abbrev pub no_storage : Storage
no_storage =
    record {
      zone = 0;
      charge = 0;
      discharge = 0;
      energy = 0;
      start = 0;
      charge_eff = 1000;
      discharge_eff = 1000;
      carry = 1000;
      rates = record { f = 0; r = 1 };
    }
