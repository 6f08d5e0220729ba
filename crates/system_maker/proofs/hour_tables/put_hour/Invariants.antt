use Rattle.std.proofs.Common.{◌≡◌, ◌++◌, take, map}
use Rattle.std.specs.List.{flat_map}
use Rattle.decimal_text.specs.DecimalText.{whole_text}
use Rattle.system_model.specs.System.{hour_at}
use Rattle.system_maker.specs.PlainTables.{next_field, series_amounts}
use Rattle.system_maker.proofs.hour_tables.put_hour.Given as goal

-- the amounts that were written so far
abbrev pub invariant-loop-zone : goal.invariant-loop-zone
invariant-loop-zone l =
    l.out ≡ l.initial.out
    ++ flat_map next_field (map whole_text (take l.zone (series_amounts l.series (hour_at l.system l.hour))))
