-- A system that can be written plainly, and the parts of it that are read one after the other.
use Rattle.std.proofs.Common.{◌≡◌, ℕ, ◌<◌, true, [], length, get_or, take}
use Rattle.std.specs.Prelude.{All}
use Rattle.std.proofs.lemmas.List.Elements.{All-get_or}
use Rattle.system_model.specs.System.{SystemParts, IsName, IsValid, no_parts}
use Rattle.system_tables.specs.Names.{Names}
use Rattle.system_maker.proofs.PlainRecords.{is_plain}
use Rattle.system_maker.proofs.PlainNames.{AreApart, AreNoHours}

-- names that need no quotes and differ from one another
pub record ArePlainNames (names : Names) : Type 0 where
  pub plain : (k : ℕ) → k < length names → is_plain (get_or names k []) ≡ true
  pub apart : AreApart names

-- a whole system with such names
pub record IsPlainSystem (s : SystemParts) : Type 0 where
  pub valid : IsValid s
  pub zones : ArePlainNames s.zone_names
  pub no_hours : AreNoHours s.zone_names
  pub units : ArePlainNames s.unit_names
  pub interfaces : ArePlainNames s.interface_names
  pub lines : ArePlainNames s.line_names
  pub storages : ArePlainNames s.storage_names

pub name_at : (names : Names) (k : ℕ) → All IsName names → k < length names → IsName (get_or names k [])
name_at names k all lt = All-get_or IsName names k [] lt all

-- the parts that stand in the tables up to one of them, and with so many rows of the next one
abbrev pub zones_to : SystemParts → ℕ → SystemParts
zones_to s n = record no_parts { zone_names = take n s.zone_names }

abbrev pub to_zones : SystemParts → SystemParts
to_zones s = record no_parts { zone_names = s.zone_names }

abbrev pub units_to : SystemParts → ℕ → SystemParts
units_to s n = record (to_zones s) { units = take n s.units; unit_names = take n s.unit_names }

abbrev pub to_units : SystemParts → SystemParts
to_units s = record (to_zones s) { units = s.units; unit_names = s.unit_names }

abbrev pub interfaces_to : SystemParts → ℕ → SystemParts
interfaces_to s n =
    record (to_units s) { interfaces = take n s.interfaces; interface_names = take n s.interface_names }

abbrev pub to_interfaces : SystemParts → SystemParts
to_interfaces s = record (to_units s) { interfaces = s.interfaces; interface_names = s.interface_names }

abbrev pub lines_to : SystemParts → ℕ → SystemParts
lines_to s n = record (to_interfaces s) { lines = take n s.lines; line_names = take n s.line_names }

abbrev pub to_lines : SystemParts → SystemParts
to_lines s = record (to_interfaces s) { lines = s.lines; line_names = s.line_names }

abbrev pub storages_to : SystemParts → ℕ → SystemParts
storages_to s n = record (to_lines s) { storages = take n s.storages; storage_names = take n s.storage_names }

abbrev pub to_storages : SystemParts → SystemParts
to_storages s = record (to_lines s) { storages = s.storages; storage_names = s.storage_names }
