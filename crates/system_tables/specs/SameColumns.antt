-- Tables that say the same under each column of their definition, wherever it stands.
use Rattle.std.specs.Prelude.{◌≡◌, ℕ, ◌<◌, ◌==◌, [], ◌∷◌, length, All, slice_index_or, Option, None, Some, Ok, codes}
use Rattle.ra_base.specs.declared.table.TableBytes.{TableBytes}
use Rattle.system_model.specs.System.{SystemParts, no_parts}
use Rattle.system_tables.specs.declared.columns.Found.{Found}
use Rattle.system_tables.specs.declared.columns.Found.TheVariants.{Missing, At, Twice}
use Rattle.system_tables.specs.Columns.{found_in}
use Rattle.system_tables.specs.Names.{Names}
use Rattle.system_tables.specs.Records.{Row, Rows}
use Rattle.system_tables.specs.Tables.{bytes_of, records_in}
use Rattle.system_tables.specs.Zones.{with_zones}

-- the name is missing in both headers, stands once in both, or more than once in both
abbrev pub StandAlike : Found → Found → Type 0
StandAlike Missing Missing = Unit {0}
StandAlike (At _) (At _) = Unit {0}
StandAlike Twice Twice = Unit {0}
StandAlike _ _ = ⊥

-- where the name stands once in both headers, the two rows have the same field under it
abbrev pub HaveSameField : Found → Found → Row → Row → Type 0
HaveSameField (At a) (At b) x y = slice_index_or x a [] ≡ slice_index_or y b []
HaveSameField _ _ _ _ = Unit {0}

-- both rows, or neither, have as many fields as their header, and under each name they have the same field
pub record SayTheSame (names : Names) (a b x y : Row) : Type 0 where
  pub full : (length x == length a) ≡ (length y == length b)
  pub fields : All (λ name. HaveSameField (found_in a name) (found_in b name) x y) names

-- two headers and the rows below them: each name stands alike in both, and row by row they say the same
pub record AreAlike (names : Names) (a b : Row) (xs ys : Rows) : Type 0 where
  pub headers : All (λ name. StandAlike (found_in a name) (found_in b name)) names
  pub count : length xs ≡ length ys
  pub rows : (k : ℕ) → k < length xs → SayTheSame names a b (slice_index_or xs k []) (slice_index_or ys k [])

-- the same of the records of two tables
abbrev pub AreRecordsAlike : Names → Rows → Rows → Type 0
AreRecordsAlike names [] [] = Unit {0}
AreRecordsAlike names (a ∷ xs) (b ∷ ys) = AreAlike names a b xs ys
AreRecordsAlike names _ _ = ⊥

-- the same of two tables, or neither is there
abbrev pub AreTablesAlike : Names → Option Rows → Option Rows → Type 0
AreTablesAlike names None None = Unit {0}
AreTablesAlike names (Some a) (Some b) = AreRecordsAlike names a b
AreTablesAlike names _ _ = ⊥

-- the names of the columns of each table
abbrev pub zone_headings : Names
zone_headings = codes "name" ∷ []

abbrev pub unit_headings : Names
unit_headings = codes "name" ∷ codes "zone" ∷ codes "capacity" ∷ codes "failure" ∷ codes "repair" ∷ []

abbrev pub interface_headings : Names
interface_headings = codes "name" ∷ codes "from" ∷ codes "to" ∷ codes "forward" ∷ codes "backward" ∷ []

abbrev pub line_headings : Names
line_headings =
    codes "name" ∷ codes "interface" ∷ codes "forward" ∷ codes "backward" ∷ codes "failure"
    ∷ codes "repair" ∷ []

abbrev pub storage_headings : Names
storage_headings =
    codes "name" ∷ codes "zone" ∷ codes "charge" ∷ codes "discharge" ∷ codes "energy_kwh"
    ∷ codes "start_kwh" ∷ codes "charge_efficiency" ∷ codes "discharge_efficiency" ∷ codes "carryover"
    ∷ codes "failure" ∷ codes "repair" ∷ []

-- the hour and each zone
abbrev pub hour_headings : SystemParts → Names
hour_headings zones = codes "hour" ∷ zones.zone_names

-- Both have the same tables, which say the same under each column of their definition, in whatever order the
-- columns stand and whatever other columns stand beside them. The columns of `load` and `variable` are the
-- hour and the zones that the first of the two gives.
pub record HaveSameColumns (a b : TableBytes) : Type 0 where
  pub zones : AreTablesAlike zone_headings (records_in a.zones) (records_in b.zones)
  pub units : AreTablesAlike unit_headings (records_in a.units) (records_in b.units)
  pub interfaces : AreTablesAlike interface_headings (records_in a.interfaces) (records_in b.interfaces)
  pub lines : AreTablesAlike line_headings (records_in a.lines) (records_in b.lines)
  pub storages : AreTablesAlike storage_headings (records_in a.storages) (records_in b.storages)
  pub load : (zones : SystemParts) → with_zones no_parts (bytes_of a.zones) ≡ Ok zones →
      AreTablesAlike (hour_headings zones) (records_in a.load) (records_in b.load)
  pub variable : (zones : SystemParts) → with_zones no_parts (bytes_of a.zones) ≡ Ok zones →
      AreTablesAlike (hour_headings zones) (records_in a.variable) (records_in b.variable)
