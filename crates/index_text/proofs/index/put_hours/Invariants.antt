use Rattle.std.proofs.Common.{◌≡◌, ◌++◌}
use Rattle.std.specs.List.{flat_map, range_with_len}
use Rattle.index_text.specs.IndexText.{hour_text}
use Rattle.index_text.proofs.index.put_hours.Given as goal

-- what was appended so far
abbrev pub invariant-loop-hour : goal.invariant-loop-hour
invariant-loop-hour l = l.out ≡ l.initial.out ++ flat_map (hour_text l.analysis) (range_with_len 0 l.hour)
