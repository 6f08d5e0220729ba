use Rattle.std.proofs.Common.{◌≡◌, vec_len}
use Rattle.std.specs.Prelude.{All}
use Rattle.zone_network.specs.Network.{IsLinkAmong}
use Rattle.network_tests.proofs.networks.links_of.Given as goal

abbrev pub invariant-loop-from : goal.invariant-loop-from
invariant-loop-from g l =
    record {
      among : All (IsLinkAmong l.zones) l.links.items;
      count : vec_len l.links ≡ l.from-index;
    }
