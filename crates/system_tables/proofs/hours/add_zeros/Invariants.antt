use Rattle.std.proofs.Common.{◌≡◌, replicate}
use Rattle.system_tables.specs.AmountRows.{no_rows}
use Rattle.system_tables.proofs.hours.add_zeros.Given as goal

abbrev pub invariant-loop-hour : goal.invariant-loop-hour
invariant-loop-hour l = l.variables ≡ record (no_rows l.zones) { rows = replicate l._hour (replicate l.zones 0) }
