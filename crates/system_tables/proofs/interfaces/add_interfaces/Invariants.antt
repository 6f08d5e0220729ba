use Rattle.std.proofs.Common.{◌≡◌, length}
use Rattle.system_tables.specs.Faults.{in_turn}
use Rattle.system_tables.specs.SoFar.{AreInterfacesSoFar}
use Rattle.system_tables.specs.Interfaces.{interface_in}
use Rattle.system_tables.proofs.interfaces.add_interfaces.Given as goal

abbrev pub invariant-rows : goal.invariant-rows
invariant-rows l =
    record {
      same : in_turn (interface_in l.columns l.width) l.draft l.rows.rest ≡ in_turn (interface_in l.columns l.width) l.initial.draft l.initial.rows.rest;
      so_far : AreInterfacesSoFar l.draft l.zones l.names;
    }

abbrev pub decreases-rows : goal.decreases-rows
decreases-rows l = length l.rows.rest
