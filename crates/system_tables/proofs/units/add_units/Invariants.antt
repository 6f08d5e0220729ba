use Rattle.std.proofs.Common.{◌≡◌, length}
use Rattle.system_tables.specs.Faults.{in_turn}
use Rattle.system_tables.specs.SoFar.{AreUnitsSoFar}
use Rattle.system_tables.specs.Units.{unit_in}
use Rattle.system_tables.proofs.units.add_units.Given as goal

abbrev pub invariant-rows : goal.invariant-rows
invariant-rows l =
    record {
      same : in_turn (unit_in l.columns l.width) l.draft l.rows.rest ≡ in_turn (unit_in l.columns l.width) l.initial.draft l.initial.rows.rest;
      so_far : AreUnitsSoFar l.draft l.zones l.names l.pooled;
    }

abbrev pub decreases-rows : goal.decreases-rows
decreases-rows l = length l.rows.rest
