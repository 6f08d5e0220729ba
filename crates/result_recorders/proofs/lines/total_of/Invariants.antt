use Rattle.std.proofs.Common.{◌≡◌, ◌*◌, ◌^◌, ◌≤◌, take}
use Rattle.std.specs.Prelude.{sum}
use Rattle.result_recorders.proofs.lines.total_of.Given as goal

-- the sum so far
abbrev pub invariant-loop-at : goal.invariant-loop-at
invariant-loop-at l = (l.total ≡ sum (take l.at l.amounts)) × (l.total ≤ l.at * 2 ^ 32)
