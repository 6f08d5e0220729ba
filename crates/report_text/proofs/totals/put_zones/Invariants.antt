use Rattle.std.proofs.Common.{◌≡◌, ◌++◌}
use Rattle.std.specs.List.{flat_map, range_with_len}
use Rattle.report_text.specs.TotalsText.{zone_line}
use Rattle.report_text.proofs.totals.put_zones.Given as goal

-- what was appended so far
abbrev pub invariant-loop-zone : goal.invariant-loop-zone
invariant-loop-zone l = l.out ≡ l.initial.out ++ flat_map (zone_line l.system.zone_names l.totals) (range_with_len 0 l.zone)
