-- The lists that a draft and a system keep, and the parts that these hold.
use Rattle.std.specs.Prelude.{◌≡◌, ℕ, ◌*◌, List, length, take, drop, map}
use Rattle.std.specs.List.{range_with_len}
use Rattle.system_model.specs.declared.parts.Parts.{Parts}
use Rattle.system_model.specs.System.{HourAmounts, amounts_of, SystemParts, IsWithinLimits, IsValid}

-- the amounts of an hour in a list that has `zones` amounts for each hour, one hour after another
abbrev pub row_of : ℕ → List ℕ → ℕ → List ℕ
row_of zones amounts hour = take zones (drop (hour * zones) amounts)

-- the hours that a list of loads and one of variable generation hold
unfoldable pub hours_of : ℕ → ℕ → List ℕ → List ℕ → List HourAmounts
hours_of zones hours load variable =
    map (λ hour. amounts_of (row_of zones load hour) (row_of zones variable hour)) (range_with_len 0 hours)

-- the parts that the lists hold
abbrev pub parts_of : Parts → SystemParts
parts_of p =
    record {
      zone_names = p.zone_names.items;
      units = p.units.items;
      unit_names = p.unit_names.items;
      interfaces = p.interfaces.items;
      interface_names = p.interface_names.items;
      lines = p.lines.items;
      line_names = p.line_names.items;
      storages = p.storages.items;
      storage_names = p.storage_names.items;
      hours = hours_of (length p.zone_names.items) p.hours p.load.items p.variable.items;
    }

-- the two lists have an amount for each hour and zone
pub record IsFilled (zones hours : ℕ) (load variable : List ℕ) : Type 0 where
  pub load_size : length load ≡ hours * zones
  pub variable_size : length variable ≡ hours * zones

-- the lists of a draft
pub record AreDraftParts (p : Parts) : Type 0 where
  pub filled : IsFilled (length p.zone_names.items) p.hours p.load.items p.variable.items
  pub within : IsWithinLimits (parts_of p)

-- the lists of a system
pub record AreSystemParts (p : Parts) : Type 0 where
  pub filled : IsFilled (length p.zone_names.items) p.hours p.load.items p.variable.items
  pub valid : IsValid (parts_of p)
