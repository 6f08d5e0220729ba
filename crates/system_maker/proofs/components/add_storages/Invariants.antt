use Rattle.std.proofs.Common.{◌≡◌, ◌*◌, ◌≤◌}
use Rattle.system_model.specs.Components.{pooled_charge, pooled_discharge}
use Rattle.system_maker.specs.MadeSystem.{made_names, made_storages}
use Rattle.system_maker.proofs.components.add_storages.Given as goal

-- the storages that were added so far
abbrev pub invariant-loop-zone : goal.invariant-loop-zone
invariant-loop-zone l =
    record {
      added : l.draft ≡ record l.initial.draft {
        storages = made_storages l.zone;
        storage_names = made_names 83 l.zone;
      };
      charge : pooled_charge (made_storages l.zone) ≤ 100 * l.zone;
      discharge : pooled_discharge (made_storages l.zone) ≤ 120 * l.zone;
    }
