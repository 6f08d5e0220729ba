use Rattle.std.proofs.Common.{◌≡◌, ◌++◌}
use Rattle.std.specs.List.{flat_map, range_with_len}
use Rattle.system_maker.specs.PlainTables.{record_text, hour_header, hour_row}
use Rattle.system_maker.proofs.hour_tables.hour_table.Given as goal

-- the records that were written so far
abbrev pub invariant-loop-hour : goal.invariant-loop-hour
invariant-loop-hour l =
    l.out ≡ record_text (hour_header l.system)
    ++ flat_map (λ hour. record_text (hour_row l.series l.system hour)) (range_with_len 0 l.hour)
