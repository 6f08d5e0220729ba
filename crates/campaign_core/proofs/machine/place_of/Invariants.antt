use Rattle.std.proofs.Common.{◌≡◌, take, false}
use Rattle.campaign_core.specs.Ranges.{range, has_range}
use Rattle.campaign_core.proofs.machine.place_of.Given as goal

abbrev pub invariant-loop-i : goal.invariant-loop-i
invariant-loop-i l = has_range (take l.i l.ranges) (range l.first l.count) ≡ false
