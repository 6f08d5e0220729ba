-- The system that is made from a number: three zones, 96 units, three interfaces, five lines, two storages and
-- the hours of a leap year.
use Rattle.std.specs.Prelude.{ℕ, ◌+◌, ◌-◌, ◌*◌, ◌/◌, ◌%◌, List, [], ◌∷◌, map, min}
use Rattle.std.specs.List.{range_with_len}
use Rattle.decimal_text.specs.DecimalText.{whole_text}
use Rattle.system_model.specs.declared.components.Unit.{Unit as UnitPart}
use Rattle.system_model.specs.declared.components.Interface.{Interface}
use Rattle.system_model.specs.declared.components.Line.{Line}
use Rattle.system_model.specs.declared.components.Storage.{Storage}
use Rattle.system_model.specs.System.{SystemParts, HourAmounts, amounts_of}

-- which of the thousand systems a number makes
abbrev pub variant_of : ℕ → ℕ
variant_of number = number % 1000

-- a letter and the place of a part among those of its kind, from 0
abbrev pub made_name : ℕ → ℕ → List ℕ
made_name letter at = letter ∷ whole_text at

-- so many names: `Z` is 90, `U` is 85, `I` is 73, `L` is 76 and `S` is 83
unfoldable pub made_names : ℕ → ℕ → List (List ℕ)
made_names letter count = map (made_name letter) (range_with_len 0 count)

-- Units stand in the zones in turn. They have 20 to 130 MW, and fail with one of four probabilities.
abbrev pub made_unit : ℕ → ℕ → UnitPart
made_unit variant at =
    record {
      zone = at % 3;
      capacity = 20 + 10 * ((5 * at + variant) % 12);
      rates = record { f = 500000 * (1 + at % 4); r = 20000000 };
    }

-- the units at the places below `count`
unfoldable pub made_units : ℕ → ℕ → List UnitPart
made_units variant count = map (made_unit variant) (range_with_len 0 count)

-- an interface of 400 MW each way between two zones
abbrev pub made_interface : ℕ → ℕ → Interface
made_interface from to = record { from = from; to = to; forward = 400; backward = 400 }

-- each two zones have one
unfoldable pub made_interfaces : List Interface
made_interfaces = made_interface 0 1 ∷ made_interface 1 2 ∷ made_interface 0 2 ∷ []

-- lines belong to the interfaces in turn
abbrev pub made_line : ℕ → Line
made_line at =
    record { interface = at % 3; forward = 250; backward = 200; rates = record { f = 1000000; r = 100000000 } }

-- the lines at the places below `count`
unfoldable pub made_lines : ℕ → List Line
made_lines count = map made_line (range_with_len 0 count)

-- the storage of a zone
abbrev pub made_storage : ℕ → Storage
made_storage zone =
    record {
      zone = zone;
      charge = 100;
      discharge = 120;
      energy = 400000;
      start = 200000;
      charge_eff = 900;
      discharge_eff = 950;
      carry = 999;
      rates = record { f = 1000000; r = 50000000 };
    }

-- the storages of the first zones, one in each
unfoldable pub made_storages : ℕ → List Storage
made_storages count = map made_storage (range_with_len 0 count)

-- The load of each zone in MW. It is greatest at noon, and goes up or down by the day of a week.
abbrev pub made_load : ℕ → ℕ → ℕ
made_load variant hour = 1600 + 40 * min (hour % 24) (24 - hour % 24) + 10 * ((hour / 24 + variant) % 7)

-- the variable generation of the second zone in MW
abbrev pub made_variable : ℕ → ℕ → ℕ
made_variable variant hour = 10 * ((7 * hour + variant) % 20)

-- an hour: the same load in each zone, and variable generation in the second one
abbrev pub made_hour : ℕ → ℕ → HourAmounts
made_hour variant hour =
    amounts_of (made_load variant hour ∷ made_load variant hour ∷ made_load variant hour ∷ [])
    (0 ∷ made_variable variant hour ∷ 0 ∷ [])

-- the hours below `count`
unfoldable pub made_hours : ℕ → ℕ → List HourAmounts
made_hours variant count = map (made_hour variant) (range_with_len 0 count)

-- the system of a variant
unfoldable pub system_of_variant : ℕ → SystemParts
system_of_variant variant =
    record {
      zone_names = made_names 90 3;
      units = made_units variant 96;
      unit_names = made_names 85 96;
      interfaces = made_interfaces;
      interface_names = made_names 73 3;
      lines = made_lines 5;
      line_names = made_names 76 5;
      storages = made_storages 2;
      storage_names = made_names 83 2;
      hours = made_hours variant 8784;
    }

-- the system that the number makes
abbrev pub made_system : ℕ → SystemParts
made_system number = system_of_variant (variant_of number)
