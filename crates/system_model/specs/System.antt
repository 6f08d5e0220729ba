-- A system: its parts in the order of the tables, the limits that they keep, and what is read of them.
use Rattle.std.specs.Prelude.{◌≡◌, ℕ, ◌<◌, ◌≤◌, List, [], length, sum, slice_index, slice_index_or, All}
use Rattle.ra_base.specs.declared.limits.TheConstants.{MOST_ZONES, MOST_UNITS, MOST_INTERFACES, MOST_LINES, MOST_STORAGES, MOST_HOURS, MOST_POOLED_MW, MOST_NAME_BYTES}
use Rattle.system_model.specs.declared.components.Rates.{Rates}
use Rattle.system_model.specs.declared.components.Unit.{Unit as UnitPart}
use Rattle.system_model.specs.declared.components.Interface.{Interface}
use Rattle.system_model.specs.declared.components.Line.{Line}
use Rattle.system_model.specs.declared.components.Storage.{Storage}
pub use Rattle.system_model.specs.Components.{IsUnitAmong, IsInterfaceAmong, IsLineAmong, IsStorageAmong, pooled_capacity, pooled_charge, pooled_discharge, no_unit, no_interface, no_line, no_storage}

-- what an hour asks and gives in each zone, in MW and in the zones' order
pub record HourAmounts : Type 0 where
  pub load : List ℕ
  pub variable : List ℕ

-- the parts of a system, each in the order of its table
pub record SystemParts : Type 0 where
  pub zone_names : List (List ℕ)
  pub units : List UnitPart
  pub unit_names : List (List ℕ)
  pub interfaces : List Interface
  pub interface_names : List (List ℕ)
  pub lines : List Line
  pub line_names : List (List ℕ)
  pub storages : List Storage
  pub storage_names : List (List ℕ)
  pub hours : List HourAmounts

-- a name is 1 to 64 bytes
pub record IsName (name : List ℕ) : Type 0 where
  pub some : 0 < length name
  pub short : length name ≤ MOST_NAME_BYTES

-- an hour with this load and this variable generation
abbrev pub amounts_of : List ℕ → List ℕ → HourAmounts
amounts_of load variable = record { load = load; variable = variable }

-- an hour of a system with so many zones: an amount for each zone, and 200,000 MW at most over all zones
pub record IsHourAmong (zones : ℕ) (hour : HourAmounts) : Type 0 where
  pub load_by_zone : length hour.load ≡ zones
  pub variable_by_zone : length hour.variable ≡ zones
  pub load : sum hour.load ≤ MOST_POOLED_MW
  pub variable : sum hour.variable ≤ MOST_POOLED_MW

-- each part has a name
pub record AreNames (count : ℕ) (names : List (List ℕ)) : Type 0 where
  pub size : length names ≡ count
  pub each : All IsName names

-- the units are within the limits
pub record AreUnits (zones : ℕ) (units : List UnitPart) (names : List (List ℕ)) : Type 0 where
  pub most : length units ≤ MOST_UNITS
  pub named : AreNames (length units) names
  pub each : All (IsUnitAmong zones) units
  pub pooled : pooled_capacity units ≤ MOST_POOLED_MW

-- the interfaces are
pub record AreInterfaces (zones : ℕ) (interfaces : List Interface) (names : List (List ℕ)) : Type 0 where
  pub most : length interfaces ≤ MOST_INTERFACES
  pub named : AreNames (length interfaces) names
  pub each : All (IsInterfaceAmong zones) interfaces

-- the lines are
pub record AreLines (interfaces : ℕ) (lines : List Line) (names : List (List ℕ)) : Type 0 where
  pub most : length lines ≤ MOST_LINES
  pub named : AreNames (length lines) names
  pub each : All (IsLineAmong interfaces) lines

-- the storages are
pub record AreStorages (zones : ℕ) (storages : List Storage) (names : List (List ℕ)) : Type 0 where
  pub most : length storages ≤ MOST_STORAGES
  pub named : AreNames (length storages) names
  pub each : All (IsStorageAmong zones) storages
  pub charge : pooled_charge storages ≤ MOST_POOLED_MW
  pub discharge : pooled_discharge storages ≤ MOST_POOLED_MW

-- the hours are
pub record AreHours (zones : ℕ) (hours : List HourAmounts) : Type 0 where
  pub most : length hours ≤ MOST_HOURS
  pub each : All (IsHourAmong zones) hours

-- no part passes a limit or leaves its range
pub record IsWithinLimits (s : SystemParts) : Type 0 where
  pub zones : length s.zone_names ≤ MOST_ZONES
  pub zone_names : All IsName s.zone_names
  pub units : AreUnits (length s.zone_names) s.units s.unit_names
  pub interfaces : AreInterfaces (length s.zone_names) s.interfaces s.interface_names
  pub lines : AreLines (length s.interfaces) s.lines s.line_names
  pub storages : AreStorages (length s.zone_names) s.storages s.storage_names
  pub hours : AreHours (length s.zone_names) s.hours

-- a whole system: within the limits, with a zone and an hour
pub record IsValid (s : SystemParts) : Type 0 where
  pub within : IsWithinLimits s
  pub zone : 0 < length s.zone_names
  pub hour : 0 < length s.hours

-- a system without parts
abbrev pub no_parts : SystemParts
no_parts =
    record {
      zone_names = [];
      units = [];
      unit_names = [];
      interfaces = [];
      interface_names = [];
      lines = [];
      line_names = [];
      storages = [];
      storage_names = [];
      hours = [];
    }

-- how many zones, units, interfaces, lines, storages and hours there are
abbrev pub zone_count : SystemParts → ℕ
zone_count s = length s.zone_names

abbrev pub unit_count : SystemParts → ℕ
unit_count s = length s.units

abbrev pub interface_count : SystemParts → ℕ
interface_count s = length s.interfaces

abbrev pub line_count : SystemParts → ℕ
line_count s = length s.lines

abbrev pub storage_count : SystemParts → ℕ
storage_count s = length s.storages

abbrev pub hour_count : SystemParts → ℕ
hour_count s = length s.hours

-- what stands past the last hour: nothing
abbrev pub no_hour : HourAmounts
no_hour = amounts_of [] []

-- the names, by the place from 0
abbrev pub zone_name_at : SystemParts → ℕ → List ℕ
zone_name_at s zone = slice_index_or s.zone_names zone []

abbrev pub unit_name_at : SystemParts → ℕ → List ℕ
unit_name_at s at = slice_index_or s.unit_names at []

abbrev pub interface_name_at : SystemParts → ℕ → List ℕ
interface_name_at s at = slice_index_or s.interface_names at []

abbrev pub line_name_at : SystemParts → ℕ → List ℕ
line_name_at s at = slice_index_or s.line_names at []

abbrev pub storage_name_at : SystemParts → ℕ → List ℕ
storage_name_at s at = slice_index_or s.storage_names at []

-- the unit at a place from 0
abbrev pub unit_at : SystemParts → ℕ → UnitPart
unit_at s at = slice_index_or s.units at no_unit

-- a unit's capacity in MW, its zone and its rates
abbrev pub unit_capacity : SystemParts → ℕ → ℕ
unit_capacity s at = (unit_at s at).capacity

abbrev pub unit_zone : SystemParts → ℕ → ℕ
unit_zone s at = (unit_at s at).zone

abbrev pub unit_rates : SystemParts → ℕ → Rates
unit_rates s at = (unit_at s at).rates

-- the interface, the line and the storage at a place from 0
abbrev pub interface_at : SystemParts → ℕ → Interface
interface_at s at = slice_index_or s.interfaces at no_interface

abbrev pub line_at : SystemParts → ℕ → Line
line_at s at = slice_index_or s.lines at no_line

abbrev pub storage_at : SystemParts → ℕ → Storage
storage_at s at = slice_index_or s.storages at no_storage

-- the amounts of an hour, counted from 0
abbrev pub hour_at : SystemParts → ℕ → HourAmounts
hour_at s hour = slice_index_or s.hours hour no_hour

-- the load of a zone in an hour, in MW
abbrev pub hourly_load : SystemParts → ℕ → ℕ → ℕ
hourly_load s hour zone = slice_index (hour_at s hour).load zone

-- the variable generation of a zone in an hour, in MW
abbrev pub hourly_variable : SystemParts → ℕ → ℕ → ℕ
hourly_variable s hour zone = slice_index (hour_at s hour).variable zone
