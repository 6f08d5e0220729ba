use Rattle.std.proofs.Common.{◌≡◌, length}
use Rattle.system_tables.specs.Faults.{in_turn}
use Rattle.system_tables.specs.SoFar.{AreStoragesSoFar}
use Rattle.system_tables.specs.Storages.{storage_in}
use Rattle.system_tables.proofs.storages.add_storages.Given as goal

abbrev pub invariant-rows : goal.invariant-rows
invariant-rows l =
    record {
      same : in_turn (storage_in l.columns l.width) l.draft l.rows.rest ≡ in_turn (storage_in l.columns l.width) l.initial.draft l.initial.rows.rest;
      so_far : AreStoragesSoFar l.draft l.zones l.names l.charge l.discharge;
    }

abbrev pub decreases-rows : goal.decreases-rows
decreases-rows l = length l.rows.rest
