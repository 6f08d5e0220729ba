-- Hours that the definitions compute, each known by hand.
use Rattle.std.specs.Prelude.{◌≡◌, refl}
use Rattle.system_model.specs.declared.components.Storage.{Storage}
use Rattle.storage_state.specs.Energy.{caps_of, energy_after}

-- 20 MW each way and 60,000 kWh; what it gives is nine tenths of what it loses
abbrev lossy : Storage
lossy =
    record {
      zone = 0;
      charge = 20;
      discharge = 20;
      energy = 60000;
      start = 60000;
      charge_eff = 1000;
      discharge_eff = 900;
      carry = 1000;
      rates = record { f = 0; r = 1000000000 };
    }

-- 20 MW from a full store, and the last 13 MW of 15,554 kWh
pub first_hour : energy_after lossy 60000 0 20 ≡ 37777
first_hour = refl

pub third_hour : energy_after lossy 15554 0 13 ≡ 1109
third_hour = refl

pub last_caps : caps_of lossy 15554 ≡ record { charge = 20; discharge = 13 }
last_caps = refl
