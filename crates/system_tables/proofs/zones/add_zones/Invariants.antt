use Rattle.std.proofs.Common.{◌≡◌, length}
use Rattle.system_tables.specs.Faults.{in_turn}
use Rattle.system_tables.specs.SoFar.{AreZonesSoFar}
use Rattle.system_tables.specs.Zones.{zone_in}
use Rattle.system_tables.proofs.zones.add_zones.Given as goal

abbrev pub invariant-rows : goal.invariant-rows
invariant-rows l =
    record {
      same : in_turn (zone_in l.columns l.width) l.draft l.rows.rest ≡ in_turn (zone_in l.columns l.width) l.initial.draft l.initial.rows.rest;
      so_far : AreZonesSoFar l.draft l.names;
    }

abbrev pub decreases-rows : goal.decreases-rows
decreases-rows l = length l.rows.rest
