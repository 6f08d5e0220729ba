use Rattle.std.proofs.Common.{◌≡◌, map, take}
use Rattle.system_model.specs.declared.components.Storage.{Storage}
use Rattle.storage_state.proofs.storages.Storages.new.Given as goal

-- the storages so far have their energies
abbrev pub invariant-loop-device : goal.invariant-loop-device
invariant-loop-device l = l.energies.items ≡ map (λ (storage : Storage). storage.start) (take l.device l.system.storages)
