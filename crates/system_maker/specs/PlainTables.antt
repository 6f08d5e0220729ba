-- The seven tables of a system, written plainly: no quotes and no spaces.
use Rattle.std.specs.Prelude.{ℕ, List, [], ◌∷◌, ◌++◌, map, Some, codes}
use Rattle.std.specs.List.{range_with_len, flat_map}
use Rattle.ra_base.specs.declared.table.TableBytes.{TableBytes}
use Rattle.decimal_text.specs.DecimalText.{whole_text, fixed_text}
use Rattle.system_model.specs.declared.components.Storage.{Storage}
use Rattle.system_model.specs.System.{SystemParts, HourAmounts, zone_count, unit_count, interface_count, line_count, storage_count, hour_count, zone_name_at, unit_name_at, interface_name_at, line_name_at, storage_name_at, unit_zone, unit_capacity, unit_rates, interface_at, line_at, storage_at, hour_at}
use Rattle.system_tables.specs.Records.{Row}
use Rattle.system_maker.specs.declared.hour_tables.Series.{Series}
use Rattle.system_maker.specs.declared.hour_tables.Series.TheVariants as series

-- a comma (44) and a field
abbrev pub next_field : List ℕ → List ℕ
next_field field = 44 ∷ field

-- the fields of a record with commas between them, and the line's end (10)
abbrev pub record_text : Row → List ℕ
record_text [] = 10 ∷ []
record_text (field ∷ fields) = field ++ flat_map next_field fields ++ 10 ∷ []

-- a record for the header, and one for each place
abbrev pub table_text : Row → (ℕ → Row) → ℕ → List ℕ
table_text header row count =
    record_text header ++ flat_map (λ at. record_text (row at)) (range_with_len 0 count)

-- a probability in billionths, with nine places
abbrev pub rate_text : ℕ → List ℕ
rate_text billionths = fixed_text billionths 9

-- an efficiency or a carryover in thousandths, with three places
abbrev pub share_text : ℕ → List ℕ
share_text thousandths = fixed_text thousandths 3

-- the table of zones
abbrev pub zone_row : SystemParts → ℕ → Row
zone_row s at = zone_name_at s at ∷ []

abbrev pub zone_header : Row
zone_header = codes "name" ∷ []

unfoldable pub zone_table : SystemParts → List ℕ
zone_table s = table_text zone_header (zone_row s) (zone_count s)

-- the table of units
unfoldable pub unit_row : SystemParts → ℕ → Row
unit_row s at =
    unit_name_at s at ∷ zone_name_at s (unit_zone s at) ∷ whole_text (unit_capacity s at)
    ∷ rate_text (unit_rates s at).f ∷ rate_text (unit_rates s at).r ∷ []

abbrev pub unit_header : Row
unit_header = codes "name" ∷ codes "zone" ∷ codes "capacity" ∷ codes "failure" ∷ codes "repair" ∷ []

unfoldable pub unit_table : SystemParts → List ℕ
unit_table s = table_text unit_header (unit_row s) (unit_count s)

-- the table of interfaces
unfoldable pub interface_row : SystemParts → ℕ → Row
interface_row s at =
    interface_name_at s at ∷ zone_name_at s (interface_at s at).from ∷ zone_name_at s (interface_at s at).to
    ∷ whole_text (interface_at s at).forward ∷ whole_text (interface_at s at).backward ∷ []

abbrev pub interface_header : Row
interface_header = codes "name" ∷ codes "from" ∷ codes "to" ∷ codes "forward" ∷ codes "backward" ∷ []

unfoldable pub interface_table : SystemParts → List ℕ
interface_table s = table_text interface_header (interface_row s) (interface_count s)

-- the table of lines
unfoldable pub line_row : SystemParts → ℕ → Row
line_row s at =
    line_name_at s at ∷ interface_name_at s (line_at s at).interface ∷ whole_text (line_at s at).forward
    ∷ whole_text (line_at s at).backward ∷ rate_text (line_at s at).rates.f ∷ rate_text (line_at s at).rates.r ∷ []

abbrev pub line_header : Row
line_header =
    codes "name" ∷ codes "interface" ∷ codes "forward" ∷ codes "backward" ∷ codes "failure" ∷ codes "repair" ∷ []

unfoldable pub line_table : SystemParts → List ℕ
line_table s = table_text line_header (line_row s) (line_count s)

-- how much a storage takes and gives in an hour, what it holds and what it starts with
abbrev pub size_fields : Storage → Row
size_fields storage =
    whole_text storage.charge ∷ whole_text storage.discharge ∷ whole_text storage.energy
    ∷ whole_text storage.start ∷ []

-- what a storage loses
abbrev pub share_fields : Storage → Row
share_fields storage =
    share_text storage.charge_eff ∷ share_text storage.discharge_eff ∷ share_text storage.carry ∷ []

-- the table of storages
unfoldable pub storage_row : SystemParts → ℕ → Row
storage_row s at =
    storage_name_at s at ∷ zone_name_at s (storage_at s at).zone ∷ size_fields (storage_at s at)
    ++ share_fields (storage_at s at) ++ rate_text (storage_at s at).rates.f ∷ rate_text (storage_at s at).rates.r ∷ []

abbrev pub storage_header : Row
storage_header =
    codes "name" ∷ codes "zone" ∷ codes "charge" ∷ codes "discharge" ∷ codes "energy_kwh" ∷ codes "start_kwh"
    ∷ codes "charge_efficiency" ∷ codes "discharge_efficiency" ∷ codes "carryover" ∷ codes "failure"
    ∷ codes "repair" ∷ []

unfoldable pub storage_table : SystemParts → List ℕ
storage_table s = table_text storage_header (storage_row s) (storage_count s)

-- what a table by hours tells of an hour
abbrev pub series_amounts : Series → HourAmounts → List ℕ
series_amounts series.Load hour = hour.load
series_amounts series.Variable hour = hour.variable

-- A table by hours: a column for each zone. Hours are counted from 0.
unfoldable pub hour_row : Series → SystemParts → ℕ → Row
hour_row which s hour = whole_text hour ∷ map whole_text (series_amounts which (hour_at s hour))

unfoldable pub hour_header : SystemParts → Row
hour_header s = codes "hour" ∷ s.zone_names

unfoldable pub hour_table : Series → SystemParts → List ℕ
hour_table which s = table_text (hour_header s) (hour_row which s) (hour_count s)

-- all seven tables
abbrev pub plain_tables : SystemParts → TableBytes
plain_tables s =
    record {
      zones = Some (zone_table s);
      units = Some (unit_table s);
      interfaces = Some (interface_table s);
      lines = Some (line_table s);
      storages = Some (storage_table s);
      load = Some (hour_table series.Load s);
      variable = Some (hour_table series.Variable s);
    }
