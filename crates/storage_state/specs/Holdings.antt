-- What the storages of a system hold together.
use Rattle.std.specs.Prelude.{◌≡◌, ℕ, ◌<◌, ◌≤◌, List, length, map, slice_index}
use Rattle.std.specs.List.{range_with_len}
use Rattle.system_model.specs.declared.components.Storage.{Storage}
use Rattle.system_model.specs.System.{SystemParts, IsValid, storage_count, storage_at}
use Rattle.storage_state.specs.Energy.{caps_of, carried}

-- what a contract sees of the storages: their system, and the energy of each in kWh
pub record Holdings : Type 0 where
  pub system : SystemParts
  pub energies : List ℕ

-- the energy of a storage
abbrev pub energy_of : Holdings → ℕ → ℕ
energy_of held device = slice_index held.energies device

-- the energies at the start, by storage
abbrev pub start_energies : SystemParts → List ℕ
start_energies system = map (λ (storage : Storage). storage.start) system.storages

-- the energies that are kept from one hour to the next, by storage; whether a storage is up doesn't matter
abbrev pub carried_energies : SystemParts → List ℕ → List ℕ
carried_energies system energies =
    map (λ device. carried (storage_at system device) (slice_index energies device)) (range_with_len 0 (storage_count system))

-- charge and discharge within the caps of the up storage
pub record IsWithinCaps (held : Holdings) (device c d : ℕ) : Type 0 where
  pub charge : c ≤ (caps_of (storage_at held.system device) (energy_of held device)).charge
  pub discharge : d ≤ (caps_of (storage_at held.system device) (energy_of held device)).discharge

-- each storage has an energy, between 0 and what it can hold
pub record AreHeld (system : SystemParts) (energies : List ℕ) : Type 0 where
  pub valid : IsValid system
  pub len : length energies ≡ storage_count system
  pub most : (device : ℕ) → device < storage_count system → slice_index energies device ≤ (storage_at system device).energy
