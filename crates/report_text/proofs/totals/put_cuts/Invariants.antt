use Rattle.std.proofs.Common.{◌≡◌, ◌++◌, take}
use Rattle.std.specs.List.{flat_map}
use Rattle.report_text.specs.TotalsText.{cut_line}
use Rattle.report_text.proofs.totals.put_cuts.Given as goal

-- what was appended so far
abbrev pub invariant-loop-row : goal.invariant-loop-row
invariant-loop-row l = l.out ≡ l.initial.out ++ flat_map (cut_line l.system.zone_names) (take l.row-index l.cuts)
