use Rattle.std.proofs.Common.{◌≡◌, ◌++◌, take}
use Rattle.std.specs.List.{flat_map}
use Rattle.report_text.specs.GateText.{run_text}
use Rattle.report_text.proofs.gates.put_runs.Given as goal

-- what was appended so far
abbrev pub invariant-loop-at : goal.invariant-loop-at
invariant-loop-at l = l.out ≡ l.initial.out ++ flat_map run_text (take l.at l.runs)
