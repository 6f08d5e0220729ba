-- The energy of a storage, in whole kWh: what it may take in and give in an hour, what that adds and
-- takes, and what it keeps from one hour to the next. What is taken is rounded up, all else down.
use Rattle.std.specs.Prelude.{ℕ, ◌+◌, ◌-◌, ◌*◌, ◌/◌, Bool, if◌then◌else◌, min}
use Rattle.std.specs.Int.{div_ceil}
use Rattle.system_model.specs.declared.components.Storage.{Storage}
use Rattle.storage_state.specs.declared.storages.Caps.{Caps}

-- the caps of a storage that is out, in MW
abbrev pub no_caps : Caps
no_caps = record { charge = 0; discharge = 0 }

-- the caps of an up storage that holds this energy
abbrev pub caps_of : Storage → ℕ → Caps
caps_of storage energy =
    record {
      charge = min storage.charge ((storage.energy - energy) / storage.charge_eff);
      discharge = min storage.discharge (energy * storage.discharge_eff / 1000000);
    }

-- the caps of a storage that is up or out
abbrev pub caps_if : Bool → Storage → ℕ → Caps
caps_if up storage energy = if up then caps_of storage energy else no_caps

-- what a discharge of so many MW takes, in kWh: discharge * 10^6 / efficiency, rounded up
abbrev pub taken : Storage → ℕ → ℕ
taken storage discharge = div_ceil (discharge * 1000000) storage.discharge_eff

-- what a charge of so many MW adds, in kWh
abbrev pub added : Storage → ℕ → ℕ
added storage charge = charge * storage.charge_eff

-- the energy after an hour with this charge and discharge
abbrev pub energy_after : Storage → ℕ → ℕ → ℕ → ℕ
energy_after storage energy charge discharge = energy - taken storage discharge + added storage charge

-- the energy that is kept from one hour to the next
abbrev pub carried : Storage → ℕ → ℕ
carried storage energy = energy * storage.carry / 1000
