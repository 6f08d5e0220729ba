use Rattle.std.proofs.Common.{◌≡◌, ◌++◌}
use Rattle.std.specs.List.{flat_map, range_with_len}
use Rattle.index_text.specs.TableText.{outage_text}
use Rattle.index_text.proofs.outages.put_outages.Given as goal

-- what was appended so far
abbrev pub invariant-loop-x : goal.invariant-loop-x
invariant-loop-x l = l.out ≡ l.initial.out ++ flat_map (outage_text l.table) (range_with_len 0 l.x)
