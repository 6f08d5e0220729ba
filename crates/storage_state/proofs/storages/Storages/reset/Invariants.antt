use Rattle.std.proofs.Common.{◌≡◌, ℕ, ◌<◌, get_or, length}
use Rattle.system_model.specs.System.{storage_count, storage_at}
use Rattle.storage_state.proofs.storages.Storages.reset.Given as goal

-- the storages so far have the energies of the start
abbrev pub invariant-loop-device : goal.invariant-loop-device
invariant-loop-device l = record {
  system : l.self-inside.system.now ≡ l.initial.self-inside.system.now;
  len : length l.self-inside.energies.items ≡ storage_count l.initial.self-inside.system.now;
  done : (k : ℕ) → k < l.device → get_or l.self-inside.energies.items k 0 ≡ (storage_at l.initial.self-inside.system.now k).start;
}
