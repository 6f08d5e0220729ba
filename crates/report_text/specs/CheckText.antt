-- The line that tells how large a system is. 10 is the line feed.
use Rattle.std.specs.Prelude.{ℕ, List, [], ◌∷◌, ◌++◌, codes}
use Rattle.decimal_text.specs.DecimalText.{whole_text}
use Rattle.system_model.specs.System.{SystemParts, zone_count, unit_count, interface_count, line_count, storage_count, hour_count}
use Rattle.system_model.specs.System.{pooled_capacity}

-- how many zones, units and interfaces there are
unfoldable pub network_text : SystemParts → List ℕ
network_text system =
    codes "zones " ++ whole_text (zone_count system)
    ++ codes " units " ++ whole_text (unit_count system)
    ++ codes " interfaces " ++ whole_text (interface_count system)

-- how many lines, storages and hours there are
unfoldable pub further_text : SystemParts → List ℕ
further_text system =
    codes " lines " ++ whole_text (line_count system)
    ++ codes " storages " ++ whole_text (storage_count system)
    ++ codes " hours " ++ whole_text (hour_count system)

-- the pooled unit capacity, and the greatest need with its first hour
unfoldable pub peak_text : SystemParts → ℕ → ℕ → List ℕ
peak_text system peak hour =
    codes " capacity " ++ whole_text (pooled_capacity system.units)
    ++ codes " peak " ++ whole_text peak
    ++ codes " hour " ++ whole_text hour

-- how many parts a system has, its pooled unit capacity, and the greatest need in MW with its first hour
abbrev pub check_line : SystemParts → ℕ → ℕ → List ℕ
check_line system peak hour = network_text system ++ further_text system ++ peak_text system peak hour ++ 10 ∷ []
