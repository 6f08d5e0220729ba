use Rattle.std.proofs.Common.{◌≡◌, filter}
use Rattle.std.specs.List.{range_with_len}
use Rattle.zone_network.specs.Network.{touches_at}
use Rattle.zone_network.proofs.links.LinkList.of.Given as goal

abbrev pub invariant-loop-at : goal.invariant-loop-at
invariant-loop-at l = l.links.items ≡ filter (touches_at l.ends l.zone) (range_with_len 0 l.at)
