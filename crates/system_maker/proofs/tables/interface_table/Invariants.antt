use Rattle.std.proofs.Common.{◌≡◌, ◌++◌}
use Rattle.std.specs.List.{flat_map, range_with_len}
use Rattle.system_maker.specs.PlainTables.{record_text, interface_header, interface_row}
use Rattle.system_maker.proofs.tables.interface_table.Given as goal

-- the records that were written so far
abbrev pub invariant-loop-at : goal.invariant-loop-at
invariant-loop-at l =
    l.out ≡ record_text interface_header ++ flat_map (λ at. record_text (interface_row l.system at)) (range_with_len 0 l.at)
