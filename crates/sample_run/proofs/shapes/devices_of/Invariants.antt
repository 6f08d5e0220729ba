use Rattle.std.proofs.Common.{◌≡◌, map, take}
use Rattle.system_model.specs.declared.components.Storage.{Storage}
use Rattle.sample_run.proofs.shapes.devices_of.Given as goal

-- the storages so far have their zones
abbrev pub invariant-loop-at : goal.invariant-loop-at
invariant-loop-at l = l.zones.items ≡ map (λ (storage : Storage). storage.zone) (take l.at l.system.storages)
