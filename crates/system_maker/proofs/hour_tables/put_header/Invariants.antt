use Rattle.std.proofs.Common.{◌≡◌, ◌++◌, take}
use Rattle.std.specs.List.{flat_map}
use Rattle.system_maker.specs.PlainTables.{next_field}
use Rattle.system_maker.proofs.hour_tables.put_header.Given as goal

-- the names that were written so far
abbrev pub invariant-loop-zone : goal.invariant-loop-zone
invariant-loop-zone l = l.out ≡ l.initial.out ++ flat_map next_field (take l.zone l.system.zone_names)
