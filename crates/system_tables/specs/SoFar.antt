-- What is kept beside a draft while its tables are read.
use Rattle.std.specs.Prelude.{◌≡◌, ℕ, ◌≤◌, [], length}
use Rattle.ra_base.specs.declared.limits.TheConstants.{MOST_ZONES, MOST_UNITS, MOST_INTERFACES, MOST_LINES, MOST_STORAGES, MOST_POOLED_MW}
use Rattle.system_model.specs.Components.{pooled_capacity, pooled_charge, pooled_discharge}
use Rattle.system_model.specs.System.{SystemParts, no_parts, unit_count, interface_count, line_count, storage_count}
use Rattle.system_tables.specs.Names.{Names}

-- the draft without the parts of the earlier tables
abbrev pub behind_zones : SystemParts → SystemParts
behind_zones s = record s { zone_names = [] }

abbrev pub behind_units : SystemParts → SystemParts
behind_units s = record (behind_zones s) { units = []; unit_names = [] }

abbrev pub behind_interfaces : SystemParts → SystemParts
behind_interfaces s = record (behind_units s) { interfaces = []; interface_names = [] }

abbrev pub behind_lines : SystemParts → SystemParts
behind_lines s = record (behind_interfaces s) { lines = []; line_names = [] }

-- the draft's zones have these names
pub record AreZones (draft : SystemParts) (zones : Names) : Type 0 where
  pub names : draft.zone_names ≡ zones
  pub most : length zones ≤ MOST_ZONES

-- the draft has zones alone, and these are their names
pub record AreZonesSoFar (draft : SystemParts) (zones : Names) : Type 0 where
  pub zones_are : AreZones draft zones
  pub later : behind_zones draft ≡ no_parts

-- its units have these names, and this capacity together
pub record AreUnitsSoFar (draft : SystemParts) (zones names : Names) (pooled : ℕ) : Type 0 where
  pub zones_are : AreZones draft zones
  pub names_are : draft.unit_names ≡ names
  pub size : length names ≡ unit_count draft
  pub most : length names ≤ MOST_UNITS
  pub pooled_is : pooled ≡ pooled_capacity draft.units
  pub pooled_most : pooled ≤ MOST_POOLED_MW
  pub later : behind_units draft ≡ no_parts

-- the draft's interfaces have these names
pub record AreInterfaces (draft : SystemParts) (names : Names) : Type 0 where
  pub names_are : draft.interface_names ≡ names
  pub size : length names ≡ interface_count draft
  pub most : length names ≤ MOST_INTERFACES

pub record AreInterfacesSoFar (draft : SystemParts) (zones names : Names) : Type 0 where
  pub zones_are : AreZones draft zones
  pub interfaces_are : AreInterfaces draft names
  pub later : behind_interfaces draft ≡ no_parts

-- its lines have these names
pub record AreLinesSoFar (draft : SystemParts) (zones interfaces names : Names) : Type 0 where
  pub zones_are : AreZones draft zones
  pub interfaces_are : AreInterfaces draft interfaces
  pub names_are : draft.line_names ≡ names
  pub size : length names ≡ line_count draft
  pub most : length names ≤ MOST_LINES
  pub later : behind_lines draft ≡ no_parts

-- its storages have these names, and these capacities together
pub record AreStoragesSoFar (draft : SystemParts) (zones names : Names) (charge discharge : ℕ) : Type 0 where
  pub zones_are : AreZones draft zones
  pub names_are : draft.storage_names ≡ names
  pub size : length names ≡ storage_count draft
  pub most : length names ≤ MOST_STORAGES
  pub charge_is : charge ≡ pooled_charge draft.storages
  pub charge_most : charge ≤ MOST_POOLED_MW
  pub discharge_is : discharge ≡ pooled_discharge draft.storages
  pub discharge_most : discharge ≤ MOST_POOLED_MW
  pub later : draft.hours ≡ []

-- the units are read, the lines are, the storages are
pub record AreUnitsRead (draft : SystemParts) (zones : Names) : Type 0 where
  pub zones_are : AreZones draft zones
  pub later : behind_units draft ≡ no_parts

pub record AreLinesRead (draft : SystemParts) (zones : Names) : Type 0 where
  pub zones_are : AreZones draft zones
  pub later : behind_lines draft ≡ no_parts

pub record AreStoragesRead (draft : SystemParts) (zones : Names) : Type 0 where
  pub zones_are : AreZones draft zones
  pub later : draft.hours ≡ []
