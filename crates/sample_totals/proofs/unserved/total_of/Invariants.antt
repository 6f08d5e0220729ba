use Rattle.std.proofs.Common.{◌≡◌, take}
use Rattle.std.specs.Prelude.{sum}
use Rattle.sample_totals.proofs.unserved.total_of.Given as goal

-- the sum so far
abbrev pub invariant-loop-zone : goal.invariant-loop-zone
invariant-loop-zone l = l.total ≡ sum (take l.zone l.unserved)
