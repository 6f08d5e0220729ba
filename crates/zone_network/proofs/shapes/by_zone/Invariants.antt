use Rattle.std.proofs.Common.{◌≡◌, map}
use Rattle.std.specs.List.{range_with_len}
use Rattle.zone_network.specs.Network.{touching}
use Rattle.zone_network.proofs.shapes.by_zone.Given as goal

abbrev pub invariant-loop-zone : goal.invariant-loop-zone
invariant-loop-zone l = l.lists.items ≡ map (touching l.links) (range_with_len 0 l.zone)
