-- What seven tables give: the system that they spell, or their first fault.
use Rattle.std.specs.Prelude.{◌≡◌, ℕ, ◌⊎◌, List, [], Option, None, Some, Ok, Err, unwrap_or, option_map}
use Rattle.ra_base.specs.declared.table.TableBytes.{TableBytes}
use Rattle.system_model.specs.System.{SystemParts, no_parts}
use Rattle.system_tables.specs.declared.faults.TableFault.{TableFault}
use Rattle.system_tables.specs.Faults.{Read, ◌>>=◌}
use Rattle.system_tables.specs.Records.{Rows, records_of}
use Rattle.system_tables.specs.Zones.{with_zones}
use Rattle.system_tables.specs.Units.{with_units}
use Rattle.system_tables.specs.Interfaces.{with_interfaces}
use Rattle.system_tables.specs.Lines.{with_lines}
use Rattle.system_tables.specs.Storages.{with_storages}
use Rattle.system_tables.specs.Hours.{with_hours}

-- the rows of a table, where there is such a table
unfoldable pub where_there : (SystemParts → List ℕ → Read SystemParts) → SystemParts → Option (List ℕ)
    → Read SystemParts
where_there read above None = Ok above
where_there read above (Some bytes) = read above bytes

-- the bytes of a table that is there
abbrev pub bytes_of : Option (List ℕ) → List ℕ
bytes_of table = unwrap_or table []

-- The tables in their order, each by what the earlier ones gave: the system, or the first fault.
unfoldable pub system_of : TableBytes → Read SystemParts
system_of tables = do
  zones ← with_zones no_parts (bytes_of tables.zones)
  units ← with_units zones (bytes_of tables.units)
  interfaces ← where_there with_interfaces units tables.interfaces
  lines ← where_there with_lines interfaces tables.lines
  storages ← where_there with_storages lines tables.storages
  with_hours storages (bytes_of tables.load) tables.variable

-- the tables spell this system
abbrev pub Reads : TableBytes → SystemParts → Type 0
Reads tables system = system_of tables ≡ Ok system

-- this is the first fault of the tables
abbrev pub FirstFault : TableBytes → TableFault → Type 0
FirstFault tables fault = system_of tables ≡ Err fault

-- tables spell one system or have one first fault, and never both
pub record HaveOneOutcome (tables : TableBytes) : Type 0 where
  pub some : ((system : SystemParts) × Reads tables system) ⊎ ((fault : TableFault) × FirstFault tables fault)
  pub one_system : (a b : SystemParts) → Reads tables a → Reads tables b → a ≡ b
  pub one_fault : (a b : TableFault) → FirstFault tables a → FirstFault tables b → a ≡ b
  pub apart : (system : SystemParts) (fault : TableFault) → Reads tables system → FirstFault tables fault → ⊥

-- the records of a table that is there
abbrev pub records_in : Option (List ℕ) → Option Rows
records_in table = option_map records_of table

-- Both have the same tables with the same records, whatever their quotes, spaces and line ends are, and
-- whether a byte order mark stands in front.
pub record HaveSameRecords (a b : TableBytes) : Type 0 where
  pub zones : records_in a.zones ≡ records_in b.zones
  pub units : records_in a.units ≡ records_in b.units
  pub interfaces : records_in a.interfaces ≡ records_in b.interfaces
  pub lines : records_in a.lines ≡ records_in b.lines
  pub storages : records_in a.storages ≡ records_in b.storages
  pub load : records_in a.load ≡ records_in b.load
  pub variable : records_in a.variable ≡ records_in b.variable
